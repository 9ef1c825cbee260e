use Rattle.std.proofs.Common.{sym, subst, ◌∙◌, ◌≡◌, true, false}
use Rattle.gimple_core.specs.Operators.{is_signed}
use Rattle.gimple_core.specs.Statements.{is_pointer}
use Rattle.value_domain.proofs.CodeLemmas.{words_of, signed_words_of, right_int, mul_right}
use Rattle.value_domain.proofs.operators.may_trap.Goals as goal

pub range_leaves-requires-clause-left : goal.range_leaves-requires-clause-left
range_leaves-requires-clause-left c = words_of _ _ c.args.scalar c.args.left.now c.requires.alike.1 c.requires.left_of

pub range_leaves-requires-clause-right : goal.range_leaves-requires-clause-right
range_leaves-requires-clause-right c = words_of _ _ c.requires.allowed.0 c.args.right.now c.requires.alike.2 c.requires.allowed.2

pub range_leaves-requires-clause-signed : goal.range_leaves-requires-clause-signed
range_leaves-requires-clause-signed c = λ s e.
    let p : is_pointer c.args.scalar ≡ false = sym c.pointer.ensures ∙ c.if-pointer.false in
    let r = right_int c.args.op c.args.scalar c.requires.allowed.0 c.requires.allowed.1 p in
    let t = mul_right c.args.op c.args.scalar c.requires.allowed.0 r.0 e in (
      signed_words_of _ _ c.args.scalar c.args.left.now c.requires.alike.1 c.requires.left_of p s,
      signed_words_of _ _ c.requires.allowed.0 c.args.right.now c.requires.alike.2 c.requires.allowed.2 r.1 (subst (λ o. is_signed o ≡ true) (sym t) s),
    )
