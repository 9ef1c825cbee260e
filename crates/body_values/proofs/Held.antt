-- What registers hold, and what their values say of it.
use Rattle.std.proofs.Common.{◌≡◌, ℕ, zero, suc, ◌<◌, ℤ, Bool, true, false, cond, List, [], ◌∷◌, length, refl, sym, ◌∙◌, ap, subst, arith, rules, Some, None, IsSomeAnd, slice_get, slice_set, unwrap_or}
use Rattle.std.specs.List.{position_or_len}
use Rattle.std.specs.Str.{bytes_eq}
use Rattle.gimple_ir.specs.declared.scalar.Scalar.{Scalar}
use Rattle.gimple_ir.specs.declared.value.Value.{Value}
use Rattle.gimple_ir.specs.declared.value.Value.TheVariants.{Null}
use Rattle.gimple_ir.specs.declared.declarations.Register.{Register}
use Rattle.gimple_core.specs.State.{Scope, register_place, value_at, value_in, is_of}
use Rattle.gimple_claims.specs.Typed.{registers_typed}
use Rattle.gimple_claims.proofs.TypedValues.{HasRegister}
use Rattle.fix_engine.specs.declared.lifted.Lifted.TheVariants.{NotReached, Reached}
use Rattle.fix_engine.specs.Rows.{Each}
use Rattle.fix_engine.specs.Bools.{and_left, and_right}
use Rattle.value_domain.specs.declared.abs_val.AbsVal.{AbsVal}
use Rattle.value_domain.specs.Values.{FitsWith, abs_val_below, is_none_val}
use Rattle.value_domain.specs.Holding.{Holds}
use Rattle.value_domain.proofs.AboveLaws.{not_none, above_holds}
use Rattle.body_values.specs.Bodies.{place_of, register_scalar, scalar_or, put_value}
use Rattle.body_values.specs.Rows.{row_below}
pub use Rattle.body_values.specs.Claims.{RowHolds, FileHolds}

pub row_above : (most : ℕ) (ts : List ℤ) (xs ys : List AbsVal) (values : List Value) → Each (FitsWith most ts) xs → row_below xs ys ≡ true → length xs ≡ length ys → RowHolds xs values → RowHolds ys values
row_above most ts [] [] [] f e n h = tt
row_above most ts [] [] (v ∷ vs) f e n h = absurd h
row_above most ts [] (y ∷ ys) values f e n h = absurd (omega (arith, n))
row_above most ts (x ∷ xs) [] values f e n h = absurd (omega (arith, n))
row_above most ts (x ∷ xs) (y ∷ ys) [] f e n h = absurd h
row_above most ts (x ∷ xs) (y ∷ ys) (v ∷ vs) f e n h = (
  above_holds most ts x y f.0 (and_left (abs_val_below x y) (row_below xs ys) e) v h.0,
  row_above most ts xs ys vs f.1 (and_right (abs_val_below x y) (row_below xs ys) e) (omega (arith, n)) h.1,
)

-- ---- registers by number

pub place_found : (b : Bool) (n i : ℕ) → cond b (Some n) None ≡ Some i → n ≡ i
place_found true n i h = cc
place_found false n i h = cc

-- the number of a register of a name, as a run says it
pub place_is : (rs : List Register) (name : List ℕ) (k : ℕ) → register_place rs name ≡ Some k → place_of rs name ≡ k
unfolding register_place
place_is rs name k e = place_found _ _ k e

pub scalar_is : (rs : List Register) (name : List ℕ) (scalar : Scalar) (c : HasRegister rs name scalar) → register_scalar rs name ≡ scalar
scalar_is rs name scalar c = ap (λ n. scalar_or (slice_get rs n)) (place_is rs name c.place c.place_is) ∙ (ap scalar_or c.at ∙ c.scalar_is)

pub value_placed : (scope : Scope) (values : List Value) (name : List ℕ) → place_of scope.declared name < length scope.declared → value_in scope values name ≡ unwrap_or (slice_get values (place_of scope.declared name)) Null
unfolding value_in register_place
value_placed scope values name within =
    let place : register_place scope.declared name ≡ Some (position_or_len (λ (x : Register). bytes_eq x.name name) scope.declared) = search (rules, within) in
    ap (value_at values) place

-- the value at a number is in the abstract value there
pub held_at : (row : List AbsVal) (values : List Value) (k : ℕ) → k < length row → RowHolds row values → IsSomeAnd (slice_get row k) (Holds (unwrap_or (slice_get values k) Null))
held_at [] values k l h = absurd (omega (arith, l))
held_at (a ∷ row) [] k l h = absurd h
held_at (a ∷ row) (v ∷ vs) zero l h = h.0
held_at (a ∷ row) (v ∷ vs) (suc k) l h = held_at row vs k (omega (arith, l)) h.1

-- ---- assignments

set_at : (row : List AbsVal) (values : List Value) (k : ℕ) (v : Value) (b : AbsVal) → RowHolds row values → Holds v b → RowHolds (slice_set row k b) (slice_set values k v)
set_at [] [] k v b h g = tt
set_at [] (w ∷ vs) k v b h g = absurd h
set_at (a ∷ row) [] k v b h g = absurd h
set_at (a ∷ row) (w ∷ vs) zero v b h g = (g, h.1)
set_at (a ∷ row) (w ∷ vs) (suc k) v b h g = (h.0, set_at row vs k v b h.1 g)

pub set_holds : (rs : List Register) (row : List AbsVal) (values : List Value) (name : List ℕ) (k : ℕ) (v : Value) (b : AbsVal) → register_place rs name ≡ Some k → RowHolds row values → Holds v b → RowHolds (slice_set row (place_of rs name) b) (slice_set values k v)
set_holds rs row values name k v b e h g = subst (λ n. RowHolds (slice_set row n b) (slice_set values k v)) (sym (place_is rs name k e)) (set_at row values k v b h g)

-- a value that is put at the number of a register is of the register's scalar, where the registers are typed after it
pub put_typed : (rs : List Register) (values : List Value) (k : ℕ) (r : Register) (v : Value) → registers_typed rs (slice_set values k v) ≡ true → slice_get rs k ≡ Some r → is_of r.scalar v ≡ true
put_typed [] values k r v t e = cc
put_typed (x ∷ rs) [] k r v t e = cc
put_typed (x ∷ rs) (w ∷ vs) zero r v t e = let same : x ≡ r = cc in ap (λ (y : Register). is_of y.scalar v) (sym same) ∙ and_left (is_of x.scalar v) (registers_typed rs vs) t
put_typed (x ∷ rs) (w ∷ vs) (suc k) r v t e = put_typed rs vs k r v (and_right (is_of x.scalar w) (registers_typed rs (slice_set vs k v)) t) e

-- ---- refinements

typed_count : (rs : List Register) (values : List Value) → registers_typed rs values ≡ true → length values ≡ length rs
typed_count [] [] t = refl
typed_count [] (v ∷ vs) t = cc
typed_count (r ∷ rs) [] t = cc
typed_count (r ∷ rs) (v ∷ vs) t = ap suc (typed_count rs vs (and_right (is_of r.scalar v) (registers_typed rs vs) t))

refined_at : (row : List AbsVal) (values : List Value) (k : ℕ) (b : AbsVal) → RowHolds row values → (k < length values → Holds (unwrap_or (slice_get values k) Null) b) → RowHolds (slice_set row k b) values
refined_at [] [] k b h g = tt
refined_at [] (v ∷ vs) k b h g = absurd h
refined_at (a ∷ row) [] k b h g = absurd h
refined_at (a ∷ row) (v ∷ vs) zero b h g = (g (omega arith), h.1)
refined_at (a ∷ row) (v ∷ vs) (suc k) b h g = (h.0, refined_at row vs k b h.1 (λ l. g (omega (arith, l))))

-- a refinement of what a register holds
pub refined_holds : (scope : Scope) (row : List AbsVal) (values : List Value) (name : List ℕ) (b : AbsVal) → registers_typed scope.declared values ≡ true → RowHolds row values → Holds (value_in scope values name) b → RowHolds (slice_set row (place_of scope.declared name) b) values
refined_holds scope row values name b t h g =
    let count : length values ≡ length scope.declared = typed_count scope.declared values t in
    refined_at row values (place_of scope.declared name) b h (λ l. subst (λ v. Holds v b) (value_placed scope values name (omega (arith, l, count))) g)

-- where no value is none, a register that gets one is reached
pub put_holds : (most : ℕ) (ts : List ℤ) (rs : List Register) (row : List AbsVal) (after : List Value) (name : List ℕ) (v : Value) (b : AbsVal) → FitsWith most ts b → Holds v b → RowHolds (slice_set row (place_of rs name) b) after → FileHolds (put_value rs row name b) after
put_holds most ts rs row after name v b f h g = by (is_none_val b) refl
  where
    by : (t : Bool) → is_none_val b ≡ t → FileHolds (cond t NotReached (Reached (slice_set row (place_of rs name) b))) after
    by true e = absurd (not_none most ts b v f h e)
    by false e = g
