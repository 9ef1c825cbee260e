-- The symbols that are found hold at each point of each activation in every run.
use Rattle.std.proofs.Common.{◌≡◌, ℕ, ◌+◌, ◌==◌, nat_le, ℤ, true, cond, List, ◌∷◌, [], ◌++◌, length, length-append, refl, sym, ◌∙◌, ap, subst, arith, Some, None, IsSomeAnd, slice_get}
use Rattle.std.specs.List.{list_all}
use Rattle.std.proofs.lemmas.Bool.{eq-eqb}
use Rattle.gimple_ir.specs.declared.scalar.Scalar.TheVariants.{I64}
use Rattle.gimple_ir.specs.declared.value.Value.{Value}
use Rattle.gimple_ir.specs.declared.operand.Operand.{Operand}
use Rattle.gimple_ir.specs.declared.operand.Operand.TheVariants.{Reg, Number, Null, Address}
use Rattle.gimple_ir.specs.declared.program.Function.{Function}
use Rattle.gimple_core.specs.Sealed.{Sealed}
use Rattle.gimple_core.specs.Operators.{in_scalar}
use Rattle.gimple_core.specs.Accepted.{first_fault}
use Rattle.gimple_core.specs.State.{State, scope_of}
use Rattle.gimple_core.specs.Run.{value_of}
use Rattle.gimple_core.specs.Trace.{Event, Entry, At, Load, Store, Leave}
use Rattle.gimple_claims.proofs.Comes.{Comes}
use Rattle.gimple_claims.proofs.OneRun.{in_run}
use Rattle.gimple_claims.proofs.Points.{IsQuiet, points_each}
use Rattle.fix_engine.specs.Bools.{both}
use Rattle.fix_engine.specs.Rows.{FitsRows, rows_below}
use Rattle.fix_engine.specs.declared.lifted.Lifted.TheVariants.{NotReached, Reached}
use Rattle.block_flow.specs.System.{point_value}
use Rattle.block_flow.proofs.Holding.{IsThere, is_there}
use Rattle.body_symbols.specs.declared.symbol.Symbol.{Symbol}
use Rattle.body_symbols.specs.Order.{symbol_below, FitsSymbol}
use Rattle.body_symbols.specs.Bodies.{Body, body_of, symbol_or, operand_symbol, symbol_steps}
use Rattle.body_symbols.specs.BodiesLaws.{symbol_steps_laws}
use Rattle.body_symbols.specs.Claims.{Stands}
use Rattle.body_symbols.specs.Found.{Found, found_row, symbol_in, is_reached, is_index, AreSymbols}
use Rattle.body_symbols.specs.FoundClaims.{FoundStand, FoundClaim, FoundHold}
use Rattle.body_symbols.proofs.Holding.{HasBegun, has_begun, standing, sound, operands}

-- what is looked up is what the analysis has
looked_up : (B : Body) (row : List Symbol) (x : Operand) → symbol_or (symbol_in B.globals B.locals B.registers (Reached row) x) ≡ operand_symbol B row x
unfolding symbol_in operand_symbol
looked_up B row (Reg name) = refl
looked_up B row (Number z) = refl
looked_up B row Null = refl
looked_up B row (Address name offset) = refl

module _ (p : Sealed) (n : ℕ) (f : Function) (t : Found) (accepted : first_fault p.program ≡ None) (found : AreSymbols p n f t) (input : List ℤ) (numbers : list_all (in_scalar I64) input ≡ true) where
  -- where the running activation is, by the arguments with which it began
  abbrev pub There : (past : List Event) (s : State) → List Value → Type 0
  There past s arguments = IsThere p input f (FitsRows FitsSymbol) (rows_below symbol_below) (length (f.params ++ f.registers) ∷ []) (symbol_steps (body_of p f)) (symbol_steps_laws (body_of p f)) (standing p f arguments) t.begins found.least.solves accepted numbers (sound p accepted input f arguments) past s

  pub there_by : (past : List Event) (s : State) → Comes p input past s → s.top.function ≡ f → (begun : HasBegun s.top.serial past) → There past s begun.arguments
  there_by past s comes same begun =
      is_there p input f (FitsRows FitsSymbol) (rows_below symbol_below) (length (f.params ++ f.registers) ∷ []) (symbol_steps (body_of p f)) (symbol_steps_laws (body_of p f)) (standing p f begun.arguments) t.begins found.least.solves accepted numbers (sound p accepted input f begun.arguments) past s comes same begun.known

  pub row_there : (past : List Event) (s : State) (arguments : List Value) (at : There past s arguments) → found_row t s.top.block s.top.index ≡ Reached at.value
  row_there past s arguments at =
      let count : length at.block.body ≡ length at.done + length s.top.rest = ap length at.body ∙ length-append at.done s.top.rest in
      let place = at.index in
      let within : nat_le s.top.index (length at.block.body) ≡ true = grind (arith, count, place) in
      let index : is_index (slice_get f.blocks s.top.block) s.top.index ≡ true = ap (λ o. is_index o s.top.index) at.found ∙ within in
      found.points s.top.block s.top.index ∙ (ap (λ b. cond b (point_value (symbol_steps (body_of p f)) f.blocks t.begins s.top.block s.top.index) NotReached) index ∙ at.reached)

  pub own : (n == t.function) ≡ true
  own = eq-eqb n t.function (sym found.function)

  found_stand : (past : List Event) (s : State) (arguments : List Value) → s.top.function ≡ f → There past s arguments → FoundStand p f t (record { function = n; block = s.top.block; index = s.top.index }) arguments s.top s.world
  found_stand past s arguments same at = record {
    reached = both (n == t.function) (is_reached (found_row t s.top.block s.top.index)) own (ap is_reached (row_there past s arguments at));
    stands = λ x a e.
        let inside : symbol_in p.program.globals f.locals (f.params ++ f.registers) (Reached at.value) x ≡ Some a =
        (λ i. symbol_in p.program.globals f.locals (sym found.registers i) (sym (row_there past s arguments at) i) x) ∙ (ap (λ b. cond b (symbol_in p.program.globals f.locals t.registers (found_row t s.top.block s.top.index) x) None) (sym own) ∙ e) in
        let is : operand_symbol (body_of p f) at.value x ≡ a = sym (looked_up (body_of p f) at.value x) ∙ ap symbol_or inside in
        subst (λ b. Stands p.mode f arguments s.top.serial b (value_of p.program.globals (scope_of s.top) s.world.registers x)) is (operands p accepted input f arguments s.top s.world at.value same at.says.stands x);
  }

  found_there : (past : List Event) (s : State) → Comes p input past s → FoundClaim p n f t past (At s.top s.world)
  found_there past s comes same =
      let begun : HasBegun s.top.serial past = has_begun p input accepted numbers past s comes in
      subst (λ o. IsSomeAnd o (λ arguments. FoundStand p f t (record { function = n; block = s.top.block; index = s.top.index }) arguments s.top s.world)) (sym begun.are) (found_stand past s begun.arguments same (there_by past s comes same begun))

quiet : (p : Sealed) (n : ℕ) (f : Function) (t : Found) → IsQuiet (FoundClaim p n f t)
quiet p n f t past (Entry s g arguments m caller) q = tt
quiet p n f t past (At c w) q = absurd q
quiet p n f t past (Load c scalar object offset v) q = tt
quiet p n f t past (Store c scalar object offset v) q = tt
quiet p n f t past (Leave s) q = tt

pub found_hold : FoundHold
found_hold p n f t accepted found input numbers turns =
    in_run p (FoundClaim p n f t) input (λ s e. tt) (points_each p (FoundClaim p n f t) input (quiet p n f t) (λ past s comes. found_there p n f t accepted found input numbers past s comes)) turns
