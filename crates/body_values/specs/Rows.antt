-- Values of registers: that they fit, and their order.
use Rattle.std.specs.Prelude.{◌≡◌, ℕ, zero, suc, ℤ, Bool, true, false, cond, List, [], ◌∷◌, ◌++◌, length, Option, Some, None, IfSome, slice_get, slice_set, refl}
use Rattle.std.proofs.Common.{arith, ap}
use Rattle.fix_engine.specs.Bools.{and_left, and_right, both}
use Rattle.fix_engine.specs.declared.lifted.Lifted.{Lifted}
use Rattle.fix_engine.specs.declared.lifted.Lifted.TheVariants.{NotReached, Reached}
use Rattle.fix_engine.specs.Rows.{Each, rows_below}
use Rattle.fix_engine.specs.Lifted.{lifted_below}
use Rattle.value_domain.specs.declared.abs_val.AbsVal.{AbsVal}
use Rattle.value_domain.specs.Values.{FitsWith, abs_val_below, is_none_val}
use Rattle.value_domain.specs.ValueLemmas.{laws_with}

-- one value a register, each of which fits
pub record RowFits (most : ℕ) (ts : List ℤ) (n : ℕ) (row : List AbsVal) : Type 0 where
  pub count : length row ≡ n
  pub each : Each (FitsWith most ts) row

abbrev pub LiftedFits : ℕ → List ℤ → ℕ → Lifted (List AbsVal) → Type 0
LiftedFits most ts n NotReached = Unit {0}
LiftedFits most ts n (Reached row) = RowFits most ts n row

abbrev pub row_below : List AbsVal → List AbsVal → Bool
row_below = rows_below abs_val_below

abbrev pub reached_below : Lifted (List AbsVal) → Lifted (List AbsVal) → Bool
reached_below = lifted_below row_below

pub get_fits : (P : AbsVal → Type 0) (xs : List AbsVal) (n : ℕ) → Each P xs → IfSome (slice_get xs n) P
get_fits P [] n f = tt
get_fits P (x ∷ xs) zero f = f.0
get_fits P (x ∷ xs) (suc n) f = get_fits P xs n f.1

pub set_fits : (P : AbsVal → Type 0) (xs : List AbsVal) (n : ℕ) (v : AbsVal) → Each P xs → P v → Each P (slice_set xs n v)
set_fits P [] n v f h = tt
set_fits P (x ∷ xs) zero v f h = (h, f.1)
set_fits P (x ∷ xs) (suc n) v f h = (f.0, set_fits P xs n v f.1 h)

pub set_count : (xs : List AbsVal) (n : ℕ) (v : AbsVal) → length (slice_set xs n v) ≡ length xs
set_count [] n v = refl
set_count (x ∷ xs) zero v = refl
set_count (x ∷ xs) (suc n) v = ap suc (set_count xs n v)

pub each_append : (P : AbsVal → Type 0) (xs ys : List AbsVal) → Each P xs → Each P ys → Each P (xs ++ ys)
each_append P [] ys f g = g
each_append P (x ∷ xs) ys f g = (f.0, each_append P xs ys f.1 g)

-- what is below: the value of a place in the one is below that in the other
abbrev pub OptionBelow : Option AbsVal → Option AbsVal → Type 0
OptionBelow None None = Unit {0}
OptionBelow None (Some b) = ⊥
OptionBelow (Some a) None = ⊥
OptionBelow (Some a) (Some b) = abs_val_below a b ≡ true

pub get_below : (xs ys : List AbsVal) (n : ℕ) → length xs ≡ length ys → row_below xs ys ≡ true → OptionBelow (slice_get xs n) (slice_get ys n)
get_below [] [] n e h = tt
get_below [] (y ∷ ys) n e h = absurd (omega (arith, e))
get_below (x ∷ xs) [] n e h = absurd (omega (arith, e))
get_below (x ∷ xs) (y ∷ ys) zero e h = and_left (abs_val_below x y) (row_below xs ys) h
get_below (x ∷ xs) (y ∷ ys) (suc n) e h = get_below xs ys n (omega (arith, e)) (and_right (abs_val_below x y) (row_below xs ys) h)

pub set_below : (xs ys : List AbsVal) (n : ℕ) (v w : AbsVal) → row_below xs ys ≡ true → abs_val_below v w ≡ true → row_below (slice_set xs n v) (slice_set ys n w) ≡ true
set_below [] ys n v w h k = refl
set_below (x ∷ xs) [] n v w h k = cc
set_below (x ∷ xs) (y ∷ ys) zero v w h k = both (abs_val_below v w) (row_below xs ys) k (and_right (abs_val_below x y) (row_below xs ys) h)
set_below (x ∷ xs) (y ∷ ys) (suc n) v w h k =
    both (abs_val_below x y) (row_below (slice_set xs n v) (slice_set ys n w)) (and_left (abs_val_below x y) (row_below xs ys) h) (set_below xs ys n v w (and_right (abs_val_below x y) (row_below xs ys) h) k)

-- each value is below itself
pub below_self : (most : ℕ) (ts : List ℤ) (a : AbsVal) → FitsWith most ts a → abs_val_below a a ≡ true
below_self most ts a f = (laws_with most ts).reflexive a f

below_none : (p q : Bool) (x : Bool) → cond p true (cond q false x) ≡ true → q ≡ true → p ≡ true
below_none true q x h e = refl
below_none false true x h e = cc
below_none false false x h e = cc

-- below none is none alone
pub none_above : (a b : AbsVal) → abs_val_below a b ≡ true → is_none_val b ≡ true → is_none_val a ≡ true
none_above a b h e = below_none (is_none_val a) (is_none_val b) _ h e
