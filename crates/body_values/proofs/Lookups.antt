-- What is looked up at a point holds in each run that is there.
use Rattle.std.proofs.Common.{◌≡◌, ℕ, ◌+◌, ◌<◌, ◌≤◌, ◌==◌, nat_le, ℤ, true, cond, List, ◌++◌, length, length-append, sym, ◌∙◌, ap, subst, arith, Option, None, IsSomeAnd, Ok, slice_get, unwrap_or}
use Rattle.std.specs.List.{list_any, list_all}
use Rattle.std.specs.Str.{bytes_eq}
use Rattle.std.proofs.lemmas.Bool.{eq-eqb}
use Rattle.std.proofs.lemmas.Bool.Decides.{nat_tests}
use Rattle.gimple_ir.specs.declared.block.Block.{Block}
use Rattle.gimple_ir.specs.declared.declarations.Register.{Register}
use Rattle.gimple_ir.specs.declared.operand.Operand.{Operand}
use Rattle.gimple_ir.specs.declared.program.Function.{Function}
use Rattle.gimple_ir.specs.declared.scalar.Scalar.{Scalar}
use Rattle.gimple_ir.specs.declared.scalar.Scalar.TheVariants.{I64}
use Rattle.gimple_ir.specs.declared.value.Value.{Value}
use Rattle.gimple_ir.specs.declared.value.Value.TheVariants.{Null}
use Rattle.gimple_core.specs.Sealed.{Sealed}
use Rattle.gimple_core.specs.Operators.{in_scalar}
use Rattle.gimple_core.specs.State.{State, registers_of, scope_of, value_in}
use Rattle.gimple_core.specs.Run.{value_of}
use Rattle.gimple_core.specs.Statements as check
use Rattle.gimple_core.specs.Trace.{Event, Entry, At, Load, Store, Leave}
use Rattle.gimple_claims.specs.Bodies.{Meets, FactsClaim}
use Rattle.gimple_claims.specs.Checks.{env_of}
use Rattle.gimple_claims.proofs.Comes.{Comes}
use Rattle.gimple_claims.proofs.OneRun.{each_before, in_run}
use Rattle.gimple_claims.proofs.Points.{IsQuiet, points_each, meets_of}
use Rattle.gimple_claims.proofs.Typed.{values_are_typed}
use Rattle.fix_engine.specs.declared.lifted.Lifted.{Lifted}
use Rattle.fix_engine.specs.declared.lifted.Lifted.TheVariants.{NotReached, Reached}
use Rattle.block_flow.specs.Runs.{ReachedWith}
use Rattle.value_domain.specs.declared.abs_val.AbsVal.{AbsVal}
use Rattle.value_domain.specs.Holding.{Holds}
use Rattle.value_domain.specs.Thresholds.{Limits}
use Rattle.body_values.specs.declared.facts.Facts.{Facts}
use Rattle.body_values.specs.Bodies.{place_of, operand_value}
use Rattle.body_values.specs.Flow.{body_of, values_at}
use Rattle.body_values.specs.Found.{Found, found_row, found_at, value_of as value_among, is_index}
use Rattle.body_values.specs.AtPoints.{EachFound, FoundClaim, FoundAlways, IsFoundOf, FoundHold, FoundHoldAlways, OperandClaim, OperandsHold}
use Rattle.body_values.specs.Claims.{given_of, Analysed}
use Rattle.body_values.specs.Rows.{RowFits}
use Rattle.body_values.specs.Rising.{LoadsFit}
use Rattle.body_values.specs.System.{loads_fit}
use Rattle.body_values.proofs.FoundWhereLaws.{named_place}
use Rattle.body_values.proofs.Held.{value_placed, held_at}
use Rattle.body_values.proofs.Points.{IsAt, is_at}
use Rattle.body_values.proofs.Stmts.{operand}

-- ---- a register

index_passes : (i n : ℕ) → i ≤ n → nat_le i n ≡ true
index_passes i n h = grind (arith, nat_tests, h)

found_solution : (p : Sealed) (n : ℕ) (f : Function) (facts : Facts) (limits : Limits) (t : Found) (h : IsFoundOf p n f facts limits t) → Analysed p n f facts limits.size limits.ends h.found.begins
found_solution p n f facts limits t h = record { accepted = h.accepted; lawful = h.lawful; fit = h.fit; solves = h.found.values.solves }

module _ (p : Sealed) (n : ℕ) (f : Function) (facts : Facts) (limits : Limits) (t : Found) (h : IsFoundOf p n f facts limits t) (input : List ℤ) (numbers : list_all (in_scalar I64) input ≡ true) where
  abbrev Here : State → Type 0
  Here s = IsAt p n f facts limits.size limits.ends h.found.begins (found_solution p n f facts limits t h) input numbers s

  -- the row of the point
  row_there : (s : State) (at : Here s) → found_row t.rows s.top.block s.top.index ≡ Reached at.row
  row_there s at =
      let whole : length at.block.body ≡ length at.done + length s.top.rest = ap length at.body ∙ length-append at.done s.top.rest in
      let place : length at.done ≡ s.top.index = at.index in
      let index : is_index (slice_get f.blocks s.top.block) s.top.index ≡ true = ap (λ (o : Option Block). is_index o s.top.index) at.found ∙ index_passes s.top.index (length at.block.body) (omega (arith, whole, place)) in
      h.found.points s.top.block s.top.index
      ∙ (ap (λ b. cond b (values_at (body_of p n f facts limits.size limits.ends) f.blocks h.found.begins s.top.block s.top.index) NotReached) index ∙ at.reached)

  value_there : (s : State) (at : Here s) → s.top.function ≡ f → (name : List ℕ) → list_any (λ r. bytes_eq r.name name) t.registers ≡ true →
      IsSomeAnd (found_at t (record { function = n; block = s.top.block; index = s.top.index }) name) (Holds (value_in (scope_of s.top) s.world.registers name))
  value_there s at same name named =
      let values : List Value = s.world.registers in
      let within : place_of t.registers name < length t.registers = named_place name t.registers named in
      let declared : registers_of s.top.function ≡ t.registers = ap registers_of same ∙ sym h.found.registers in
      let count : length at.row ≡ length t.registers = at.fits.count ∙ sym (ap length h.found.registers) in
      let held : IsSomeAnd (slice_get at.row (place_of t.registers name)) (Holds (unwrap_or (slice_get values (place_of t.registers name)) Null)) =
      held_at at.row values (place_of t.registers name) (omega (arith, within, count)) at.holds in
      let value : value_in (scope_of s.top) values name ≡ unwrap_or (slice_get values (place_of t.registers name)) Null =
      value_placed (scope_of s.top) values name (subst (λ (rs : List Register). place_of rs name < length rs) (sym declared) within) ∙ ap (λ (rs : List Register). unwrap_or (slice_get values (place_of rs name)) Null) declared in
      let own : (n == t.function) ≡ true = eq-eqb n t.function (sym h.found.function) in
      let found : found_at t (record { function = n; block = s.top.block; index = s.top.index }) name ≡ slice_get at.row (place_of t.registers name) =
      ap (λ b. cond b (value_among (place_of t.registers name) (found_row t.rows s.top.block s.top.index)) None) own ∙ ap (value_among (place_of t.registers name)) (row_there s at) in
      subst (λ o. IsSomeAnd o (Holds (value_in (scope_of s.top) values name))) (sym found) (subst (λ v. IsSomeAnd (slice_get at.row (place_of t.registers name)) (Holds v)) (sym value) held)

  pub each_there : (past : List Event) (s : State) → Comes p input past s → s.top.function ≡ f → Meets f (given_of n f facts) s.top.serial past → EachFound n t (At s.top s.world)
  each_there past s c same meets = λ name named.
      value_there s (is_at p n f facts limits.size limits.ends h.found.begins (found_solution p n f facts limits t h) input numbers past s c same meets) same name named

quiet_found : (n : ℕ) (f : Function) (facts : Facts) (t : Found) → IsQuiet (FoundClaim n f facts t)
quiet_found n f facts t past (Entry s g arguments m caller) q = tt
quiet_found n f facts t past (At c w) q = absurd q
quiet_found n f facts t past (Load c scalar object offset v) q = tt
quiet_found n f facts t past (Store c scalar object offset v) q = tt
quiet_found n f facts t past (Leave s) q = tt

quiet_always : (n : ℕ) (f : Function) (t : Found) → IsQuiet (FoundAlways n f t)
quiet_always n f t past (Entry s g arguments m caller) q = tt
quiet_always n f t past (At c w) q = absurd q
quiet_always n f t past (Load c scalar object offset v) q = tt
quiet_always n f t past (Store c scalar object offset v) q = tt
quiet_always n f t past (Leave s) q = tt

pub found_hold : FoundHold
found_hold p n f facts limits t h input numbers turns =
    in_run p (FoundClaim n f facts t) input (λ s e. tt)
    (points_each p (FoundClaim n f facts t) input (quiet_found n f facts t) (λ past s c same meets. each_there p n f facts limits t h input numbers past s c same meets)) turns

pub found_hold_always : FoundHoldAlways
found_hold_always p n f facts limits t h all input numbers turns =
    in_run p (FoundAlways n f t) input (λ s e. tt)
    (points_each p (FoundAlways n f t) input (quiet_always n f t)
    (λ past s c same. each_there p n f facts limits t h input numbers past s c same
    (meets_of f (given_of n f facts) s.top.serial past (each_before p (FactsClaim f (given_of n f facts)) input (all input numbers) past s c)))) turns

-- ---- an operand

module _ (p : Sealed) (n : ℕ) (f : Function) (facts : Facts) (most : ℕ) (ts : List ℤ) (xs : List (Lifted (List AbsVal))) (h : Analysed p n f facts most ts xs) (input : List ℤ) (numbers : list_all (in_scalar I64) input ≡ true) where
  operand_here : (past : List Event) (s : State) (at : IsAt p n f facts most ts xs h input numbers s) → Comes p input past s → s.top.function ≡ f → (scalar : Scalar) (x : Operand) → check.operand (env_of p.program f) 4 scalar x ≡ Ok tt →
      Holds (value_of p.program.globals (scope_of s.top) s.world.registers x) (operand_value (body_of p n f facts most ts) at.row scalar x)
  operand_here past s at c same scalar x checked =
      subst (λ (g : Function). RowFits most ts (length (g.params ++ g.registers)) at.row → LoadsFit (body_of p n g facts most ts) → check.operand (env_of p.program g) 4 scalar x ≡ Ok tt →
      Holds (value_of p.program.globals (scope_of s.top) s.world.registers x) (operand_value (body_of p n g facts most ts) at.row scalar x)) same
      (λ fits loads checked. (operand p n s.top.function facts most ts h.lawful s.top.serial s.world.registers at.row (values_are_typed p h.accepted input numbers past s c).top fits at.holds loads scalar x checked).holds)
      at.fits (loads_fit p n f facts most ts h.fit) checked

  pub operand_there : (past : List Event) (s : State) → Comes p input past s → s.top.function ≡ f → Meets f (given_of n f facts) s.top.serial past → (scalar : Scalar) (x : Operand) → check.operand (env_of p.program f) 4 scalar x ≡ Ok tt →
      ReachedWith (λ row. Holds (value_of p.program.globals (scope_of s.top) s.world.registers x) (operand_value (body_of p n f facts most ts) row scalar x)) (values_at (body_of p n f facts most ts) f.blocks xs s.top.block s.top.index)
  operand_there past s c same meets scalar x checked =
      let at = is_at p n f facts most ts xs h input numbers past s c same meets in
      subst (ReachedWith (λ row. Holds (value_of p.program.globals (scope_of s.top) s.world.registers x) (operand_value (body_of p n f facts most ts) row scalar x))) (sym at.reached) (operand_here past s at c same scalar x checked)

quiet_operands : (p : Sealed) (n : ℕ) (f : Function) (facts : Facts) (most : ℕ) (ts : List ℤ) (xs : List (Lifted (List AbsVal))) → IsQuiet (OperandClaim p n f facts most ts xs)
quiet_operands p n f facts most ts xs past (Entry s g arguments m caller) q = tt
quiet_operands p n f facts most ts xs past (At c w) q = absurd q
quiet_operands p n f facts most ts xs past (Load c scalar object offset v) q = tt
quiet_operands p n f facts most ts xs past (Store c scalar object offset v) q = tt
quiet_operands p n f facts most ts xs past (Leave s) q = tt

pub operands_hold : OperandsHold
operands_hold p n f facts most ts xs h input numbers turns =
    in_run p (OperandClaim p n f facts most ts xs) input (λ s e. tt)
    (points_each p (OperandClaim p n f facts most ts xs) input (quiet_operands p n f facts most ts xs) (λ past s c same meets. operand_there p n f facts most ts xs h input numbers past s c same meets)) turns
