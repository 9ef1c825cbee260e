use Rattle.std.proofs.Common.{sym, subst, ◌∙◌, ◌≡◌, false}
use Rattle.value_domain.specs.RangeOperators.{IsInside}
use Rattle.value_domain.specs.Values.{is_none_val}
use Rattle.value_domain.proofs.CodeLemmas.{inside_of, words_of, right_int, mul_right}
use Rattle.value_domain.proofs.operators.abs_op.Goals as goal

pub op_range_of-range-requires-clause-left : goal.op_range_of-range-requires-clause-left
op_range_of-range-requires-clause-left c =
    let full : is_none_val c.args.left.now ≡ false = sym c.is_empty.ensures ∙ c.if-is_empty.false in
    λ p. inside_of _ _ c.args.scalar c.args.left.now c.requires.left_fits c.requires.left_of full p

pub op_range_of-range-requires-clause-right : goal.op_range_of-range-requires-clause-right
op_range_of-range-requires-clause-right c = λ p. words_of _ _ c.args.other c.args.right.now c.requires.right_fits c.requires.right_of

pub op_range_of-range-requires-clause-same : goal.op_range_of-range-requires-clause-same
op_range_of-range-requires-clause-same c =
    let full : is_none_val c.args.right.now ≡ false = sym c.is_empty-2.ensures ∙ c.if-is_empty-2.false in
    λ p e. let r = right_int c.args.op c.args.scalar c.args.other c.requires.allowed p in
    subst (λ o. IsInside o c.args.right.now.range) (mul_right c.args.op c.args.scalar c.args.other r.0 e) (inside_of _ _ c.args.other c.args.right.now c.requires.right_fits c.requires.right_of full r.1)
