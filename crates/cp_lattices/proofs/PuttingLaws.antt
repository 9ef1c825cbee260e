-- What the code puts behind the gifts so far.
use Rattle.std.proofs.Common.{◌≡◌, ℕ, ◌<◌, List, [], ◌∷◌, ◌++◌, length, get_or, Option, Some, None, refl, sym, ◌∙◌, ap, slice_get}
use Rattle.std.specs.Prelude.{position}
use Rattle.std.specs.Str.{bytes_eq}
use Rattle.std.proofs.lemmas.List.{append-nil}
use Rattle.std.proofs.lemmas.Option.{slice_get_read}
use Rattle.gimple_ir.specs.declared.block.Block.{Block}
use Rattle.gimple_ir.specs.declared.declarations.Register.{Register}
use Rattle.gimple_ir.specs.declared.operand.Operand.{Operand}
use Rattle.gimple_ir.specs.declared.point.Point.{Point}
use Rattle.gimple_ir.specs.declared.program.Function.{Function}
use Rattle.gimple_ir.specs.declared.statement.Stmt.{Stmt}
use Rattle.fix_engine.specs.declared.lifted.Lifted.{Lifted}
use Rattle.value_domain.specs.declared.abs_val.AbsVal.{AbsVal}
use Rattle.body_symbols.specs.declared.jumps.JumpFn.{JumpFn}
use Rattle.body_values.specs.Bodies.{Body}
use Rattle.cp_lattices.specs.declared.gift.Gift.{Gift}
use Rattle.cp_lattices.specs.GiftLists.{Giver, gift_of, argument_gifts, given_to, given_callee, given_named, jumps_there, call_gifts, statement_gifts, point_gifts, body_gifts, block_gifts}

-- ---- an argument

module _ (B : Body) (n m j : ℕ) (row : List AbsVal) (old : List Gift) where
  pub no_formal : (r : Option Register) (x : Option Operand) (f : Option JumpFn) → r ≡ None → old ≡ old ++ argument_gifts B n m j row r x f
  no_formal r x f e = sym (append-nil old) ∙ (λ i. old ++ argument_gifts B n m j row (sym e i) x f)

  pub no_argument : (r : Option Register) (x : Option Operand) (f : Option JumpFn) (formal : Register) → r ≡ Some formal → x ≡ None → old ≡ old ++ argument_gifts B n m j row r x f
  no_argument r x f formal e g = sym (append-nil old) ∙ (λ i. old ++ argument_gifts B n m j row (sym e i) (sym g i) f)

  pub no_jump : (r : Option Register) (x : Option Operand) (f : Option JumpFn) (formal : Register) (argument : Operand) → r ≡ Some formal → x ≡ Some argument → f ≡ None → old ≡ old ++ argument_gifts B n m j row r x f
  no_jump r x f formal argument e g h = sym (append-nil old) ∙ (λ i. old ++ argument_gifts B n m j row (sym e i) (sym g i) (sym h i))

  pub argument_put : (r : Option Register) (x : Option Operand) (f : Option JumpFn) (formal : Register) (argument : Operand) (jump : JumpFn) (gift : Gift) (new : List Gift) → r ≡ Some formal → x ≡ Some argument → f ≡ Some jump →
      gift ≡ gift_of B n m j row formal argument jump → new ≡ old ++ gift ∷ [] → new ≡ old ++ argument_gifts B n m j row r x f
  argument_put r x f formal argument jump gift new e g h is put = put ∙ ((λ i. old ++ is i ∷ []) ∙ (λ i. old ++ argument_gifts B n m j row (sym e i) (sym g i) (sym h i)))

-- ---- a call

module _ (G : Giver) (at : Point) (row : List AbsVal) (name : List ℕ) (xs : List Operand) (old : List Gift) where
  abbrev named : Option ℕ
  named = position (λ f. bytes_eq f.name name) G.program.functions

  pub no_name : named ≡ None → old ≡ old ++ call_gifts G at row name xs
  unfolding call_gifts
  no_name e = sym (append-nil old) ∙ (λ i. old ++ given_named G row xs (jumps_there G at) (sym e i))

  pub no_callee : (m : ℕ) → named ≡ Some m → slice_get G.program.functions m ≡ None → old ≡ old ++ call_gifts G at row name xs
  unfolding call_gifts
  no_callee m e g = sym (append-nil old) ∙ ((λ i. old ++ given_callee G.body G.number m row xs (jumps_there G at) (sym g i)) ∙ (λ i. old ++ given_named G row xs (jumps_there G at) (sym e i)))

  pub call_put : (m : ℕ) (callee : Function) (fs : List JumpFn) (new : List Gift) → named ≡ Some m → slice_get G.program.functions m ≡ Some callee → fs ≡ jumps_there G at → new ≡ old ++ given_to G.body G.number m row callee.params xs fs → new ≡ old ++ call_gifts G at row name xs
  unfolding call_gifts
  call_put m callee fs new e g jumps put =
      put
      ∙ ((λ i. old ++ given_to G.body G.number m row callee.params xs (jumps i))
      ∙ ((λ i. old ++ given_callee G.body G.number m row xs (jumps_there G at) (sym g i)) ∙ (λ i. old ++ given_named G row xs (jumps_there G at) (sym e i))))

-- ---- a statement and a block

pub block_there : (blocks all : List Block) (k : ℕ) (b : Block) → blocks ≡ all → k < length blocks → b ≡ get_or blocks k b → slice_get all k ≡ Some b
block_there blocks all k b are l is = ap (λ (bs : List Block). slice_get bs k) (sym are) ∙ slice_get_read blocks (length blocks) k b refl l is

module _ (G : Giver) (rows : ℕ → ℕ → Lifted (List AbsVal)) (k : ℕ) (old new : List Gift) where
  pub statement_put : (i : ℕ) (body : List Stmt) (x : Stmt) (file : Lifted (List AbsVal)) → i < length body → x ≡ get_or body i x → file ≡ rows k i → new ≡ old ++ statement_gifts G (record { function = G.number; block = k; index = i }) file x →
      new ≡ old ++ point_gifts G rows k i (slice_get body i)
  statement_put i body x file l is same put =
      put ∙ ((λ t. old ++ statement_gifts G (record { function = G.number; block = k; index = i }) (same t) x) ∙ (λ t. old ++ point_gifts G rows k i (sym (slice_get_read body (length body) i x refl l is) t)))

  pub block_put : (blocks all : List Block) (b : Block) (body : List Stmt) → blocks ≡ all → k < length blocks → b ≡ get_or blocks k b → body ≡ b.body → new ≡ old ++ body_gifts G rows k body → new ≡ old ++ block_gifts G rows k (slice_get all k)
  block_put blocks all b body are l is same put =
      put ∙ ((λ t. old ++ body_gifts G rows k (same t)) ∙ (λ t. old ++ block_gifts G rows k (sym (block_there blocks all k b are l is) t)))
