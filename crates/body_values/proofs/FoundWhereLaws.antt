-- A value is found exactly at the points that are reached, for the names of registers.
use Rattle.std.proofs.Common.{◌≡◌, ℕ, zero, suc, ◌+◌, ◌<◌, ◌==◌, ℤ, Bool, true, false, cond, not, ◌||◌, List, [], ◌∷◌, ◌++◌, take, length, Option, None, is_some, slice_get, refl, sym, subst, arith}
use Rattle.std.specs.List.{list_any}
use Rattle.std.proofs.lemmas.Bool.{eqb-true, eq-eqb}
use Rattle.gimple_ir.specs.declared.declarations.Register.{Register}
use Rattle.gimple_ir.specs.declared.block.Block.{Block}
use Rattle.gimple_ir.specs.declared.program.Function.{Function}
use Rattle.gimple_core.specs.Sealed.{Sealed}
use Rattle.std.specs.Str.{bytes_eq}
use Rattle.fix_engine.specs.declared.lifted.Lifted.{Lifted}
use Rattle.fix_engine.specs.declared.lifted.Lifted.TheVariants.{NotReached, Reached}
use Rattle.fix_engine.specs.Rows.{FitsRows, rows_below}
use Rattle.block_flow.specs.Steps.{StepsLaws}
use Rattle.block_flow.specs.System.{body_at, value_or, point_value}
use Rattle.block_flow.proofs.Solved.{value_fits}
use Rattle.block_flow.proofs.Holding.{statements_fit}
use Rattle.value_domain.specs.declared.abs_val.AbsVal.{AbsVal}
use Rattle.value_domain.specs.Values.{FitsAbsVal, abs_val_below, kind_of}
use Rattle.value_domain.specs.Thresholds.{Limits, IsLawful}
use Rattle.body_values.specs.declared.facts.Facts.{Facts}
use Rattle.body_values.specs.Bodies.{place_of}
use Rattle.body_values.specs.Flow.{body_of, entry_row, steps_in, values_at}
use Rattle.body_values.specs.Found.{Found, AreFound, found_row, value_of, is_index}
use Rattle.body_values.specs.FoundWhere.{IsReached, FoundThere, FoundThereAlone}
use Rattle.body_values.specs.Rows.{LiftedFits}
use Rattle.body_values.specs.System.{FactsFit, loads_fit, entry_fits, file_from, steps_laws}

-- ---- rows have one value a register

within : (bs : List Block) (k i : ℕ) → is_index (slice_get bs k) i ≡ true → k < length bs
within [] k i h = cc
within (b ∷ bs) zero i h = omega arith
within (b ∷ bs) (suc k) i h = let rest = within bs k i h in omega (arith, rest)

cond_fits : (P : Lifted (List AbsVal) → Type 0) (b : Bool) (x : Lifted (List AbsVal)) → (b ≡ true → P x) → P NotReached → P (cond b x NotReached)
cond_fits P true x h g = h refl
cond_fits P false x h g = g

module _ (p : Sealed) (n : ℕ) (f : Function) (facts : Facts) (limits : Limits) (t : Found) (law : IsLawful limits.ends) (fit : FactsFit f facts limits.size limits.ends) (found : AreFound p n f facts limits t) where
  abbrev Fits : Lifted (List AbsVal) → Type 0
  Fits x = LiftedFits limits.size limits.ends (length (f.params ++ f.registers)) x

  laws : StepsLaws (FitsRows FitsAbsVal) (rows_below abs_val_below) (length (f.params ++ f.registers) ∷ kind_of limits.size limits.ends) (steps_in p n f facts limits.size limits.ends)
  laws = steps_laws (body_of p n f facts limits.size limits.ends) law (loads_fit p n f facts limits.size limits.ends fit) (entry_row f facts.formals limits.size limits.ends) (entry_fits f facts limits.size limits.ends law fit)

  values_fit : (k i : ℕ) → k < length f.blocks → Fits (values_at (body_of p n f facts limits.size limits.ends) f.blocks found.begins k i)
  unfolding point_value
  values_fit k i l =
      let begin = value_fits (FitsRows FitsAbsVal) (rows_below abs_val_below) (length (f.params ++ f.registers) ∷ kind_of limits.size limits.ends) (steps_in p n f facts limits.size limits.ends) f.blocks found.begins found.values.solves k l in
      file_from limits.size limits.ends (length (f.params ++ f.registers)) _ law
      (statements_fit (FitsRows FitsAbsVal) (rows_below abs_val_below) (length (f.params ++ f.registers) ∷ kind_of limits.size limits.ends) (steps_in p n f facts limits.size limits.ends) laws k 0 (take i (body_at (slice_get f.blocks k))) (value_or (slice_get found.begins k)) begin)

  -- so do those at each point
  pub row_fits : (k i : ℕ) → Fits (found_row t.rows k i)
  row_fits k i = subst Fits (sym (found.points k i)) (cond_fits Fits (is_index (slice_get f.blocks k) i) (values_at (body_of p n f facts limits.size limits.ends) f.blocks found.begins k i) (λ h. values_fit k i (within f.blocks k i h)) tt)

-- ---- registers by name

abbrev named : List ℕ → List Register → Bool
named name rs = list_any (λ r. bytes_eq r.name name) rs

pub named_place : (name : List ℕ) (rs : List Register) → named name rs ≡ true → place_of rs name < length rs
named_place name [] h = cc
named_place name (r ∷ rs) h = by (bytes_eq r.name name) h (λ k. named_place name rs k)
  where
    by : (b : Bool) → (b || named name rs) ≡ true → (named name rs ≡ true → place_of rs name < length rs) → cond (not b) (1 + place_of rs name) 0 < suc (length rs)
    by true h k = omega arith
    by false h k = let rest = k h in omega (arith, rest)

place_named : (name : List ℕ) (rs : List Register) → place_of rs name < length rs → named name rs ≡ true
place_named name [] l = absurd (omega (arith, l))
place_named name (r ∷ rs) l = by (bytes_eq r.name name) l (λ k. place_named name rs k)
  where
    by : (b : Bool) → cond (not b) (1 + place_of rs name) 0 < suc (length rs) → (place_of rs name < length rs → named name rs ≡ true) → (b || named name rs) ≡ true
    by true l k = refl
    by false l k = k (omega (arith, l))

-- ---- values in rows

get_some : (row : List AbsVal) (k : ℕ) → k < length row → is_some (slice_get row k) ≡ true
get_some [] k l = absurd (omega (arith, l))
get_some (a ∷ row) zero l = refl
get_some (a ∷ row) (suc k) l = get_some row k (omega (arith, l))

some_within : (row : List AbsVal) (k : ℕ) → is_some (slice_get row k) ≡ true → k < length row
some_within [] k h = cc
some_within (a ∷ row) zero h = omega arith
some_within (a ∷ row) (suc k) h = let rest = some_within row k h in omega (arith, rest)

in_row : (most : ℕ) (ts : List ℤ) (m : ℕ) (x : Lifted (List AbsVal)) (k : ℕ) → LiftedFits most ts m x → IsReached x → k < m → is_some (value_of k x) ≡ true
in_row most ts m NotReached k f r l = absurd r
in_row most ts m (Reached row) k f r l = get_some row k (let e = f.count in omega (arith, e, l))

reached_by : (x : Lifted (List AbsVal)) (k : ℕ) → is_some (value_of k x) ≡ true → IsReached x
reached_by NotReached k h = cc
reached_by (Reached row) k h = tt

place_by : (most : ℕ) (ts : List ℤ) (m : ℕ) (x : Lifted (List AbsVal)) (k : ℕ) → LiftedFits most ts m x → is_some (value_of k x) ≡ true → k < m
place_by most ts m NotReached k f h = cc
place_by most ts m (Reached row) k f h = let e = f.count in let l = some_within row k h in omega (arith, e, l)

-- ---- the laws

chosen : (b : Bool) (o : Option AbsVal) → is_some (cond b o None) ≡ true → (b ≡ true) × (is_some o ≡ true)
chosen true o h = (refl, h)
chosen false o h = cc

pub found_there : FoundThere
found_there p n f facts limits t law fit found at name w =
    let place : place_of t.registers name < length (f.params ++ f.registers) = subst (λ (rs : List Register). place_of t.registers name < length rs) found.registers (named_place name t.registers w.register) in
    rw (eq-eqb at.function t.function w.function)
    (in_row limits.size limits.ends (length (f.params ++ f.registers)) (found_row t.rows at.block at.index) (place_of t.registers name) (row_fits p n f facts limits t law fit found at.block at.index) w.reached place)

pub found_there_alone : FoundThereAlone
found_there_alone p n f facts limits t law fit found at name h =
    let both = chosen (at.function == t.function) (value_of (place_of t.registers name) (found_row t.rows at.block at.index)) h in
    let place : place_of t.registers name < length (f.params ++ f.registers) =
    place_by limits.size limits.ends (length (f.params ++ f.registers)) (found_row t.rows at.block at.index) (place_of t.registers name) (row_fits p n f facts limits t law fit found at.block at.index) both.1 in
    record {
      function = eqb-true at.function t.function both.0;
      reached = reached_by (found_row t.rows at.block at.index) (place_of t.registers name) both.1;
      register = place_named name t.registers (subst (λ (rs : List Register). place_of t.registers name < length rs) (sym found.registers) place);
    }
