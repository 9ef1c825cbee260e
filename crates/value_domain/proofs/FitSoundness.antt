-- Intervals fitted to a scalar: sound for results that do not trap, monotone, and of the scalar.
use Rattle.std.proofs.Common.{cond, ◌≡◌, ℤ, ◌≤ℤ◌, ◌<ℤ◌, ◌⊎◌, inl, inr, Bool, true, false, refl, sym, ◌∙◌, subst, int_le, int_div, arith, Option, Some, None, Err}
use Rattle.std.specs.Int.{int_min, int_max}
use Rattle.std.proofs.lemmas.Int.{ints, clamps}
use Rattle.gimple_ir.specs.declared.scalar.Mode.{Mode}
use Rattle.gimple_ir.specs.declared.scalar.Mode.TheVariants.{Trap, Wrap}
use Rattle.gimple_ir.specs.declared.scalar.Scalar.{Scalar}
use Rattle.gimple_ir.specs.declared.value.TrapKind.TheVariants.{Overflow}
use Rattle.gimple_core.specs.Operators.{in_scalar, least_of, greatest_of, within, kept, wrapped}
use Rattle.value_domain.specs.declared.range.Range.{Range}
use Rattle.value_domain.specs.Ranges.{InRange, WithinEach, InEach, IsHull, EndsReached}
use Rattle.value_domain.specs.RangeOperators.{IsInside, type_range, meet_each, whole_each, traps_outside, fitted}
use Rattle.value_domain.specs.FitLemmas.{le_tells, meet_holds, meet_monotone, whole_monotone, unless_cases}
use Rattle.value_domain.proofs.ScalarLemmas.{okay, in_type, wrapped_same, wrapped_in, type_zero}

pub okay_same : (y x : ℤ) → okay y ≡ okay x → y ≡ x
okay_same y x e = cc

-- a result that does not trap outside its scalar lies in it
pub within_is : (scalar : Scalar) (y x : ℤ) → within scalar y ≡ okay x → InRange y (type_range scalar) × (y ≡ x)
within_is scalar y x h = by (in_scalar scalar y) refl h
  where
    by : (t : Bool) → in_scalar scalar y ≡ t → cond t (okay y) (Err Overflow) ≡ okay x → InRange y (type_range scalar) × (y ≡ x)
    by true f k = (in_type scalar y f, okay_same y x k)
    by false f k = cc

pub kept_is : (mode : Mode) (scalar : Scalar) (y : ℤ) → kept mode scalar y ≡ cond (traps_outside mode scalar) (within scalar y) (okay (wrapped scalar y))
kept_is Trap scalar y = refl
kept_is Wrap scalar y = refl

-- an exact result that is kept lies in a scalar outside which it traps, and is wrapped into any other
pub kept_cases : (mode : Mode) (scalar : Scalar) (y x : ℤ) → kept mode scalar y ≡ okay x → ((traps_outside mode scalar ≡ true) × InRange y (type_range scalar) × (y ≡ x)) ⊎ ((traps_outside mode scalar ≡ false) × (wrapped scalar y ≡ x))
kept_cases mode scalar y x h = by (traps_outside mode scalar) refl (sym (kept_is mode scalar y) ∙ h)
  where
    by : (s : Bool) → traps_outside mode scalar ≡ s → cond s (within scalar y) (okay (wrapped scalar y)) ≡ okay x → ((traps_outside mode scalar ≡ true) × InRange y (type_range scalar) × (y ≡ x)) ⊎ ((traps_outside mode scalar ≡ false) × (wrapped scalar y ≡ x))
    by true e k = let w = within_is scalar y x k in inl (e, w.0, w.1)
    by false e k = inr (e, okay_same (wrapped scalar y) x k)

pub choose : (b : Bool) (P : Option Range → Type 0) (x y : Option Range) → (b ≡ true → P x) → (b ≡ false → P y) → P (cond b x y)
choose true P x y h k = h refl
choose false P x y h k = k refl

fit_cases : (mode : Mode) (scalar : Scalar) (o : Option Range) (P : Option Range → Type 0) → (traps_outside mode scalar ≡ true → P (meet_each (type_range scalar) o)) → (traps_outside mode scalar ≡ false → P (whole_each (type_range scalar) o)) → P (fitted mode scalar o)
fit_cases mode scalar o P h k = choose (traps_outside mode scalar) P (meet_each (type_range scalar) o) (whole_each (type_range scalar) o) h k

meets : (scalar : Scalar) (o : Option Range) (y : ℤ) → InRange y (type_range scalar) → InEach y o → InEach y (meet_each (type_range scalar) o)
meets scalar None y h k = k
meets scalar (Some r) y h k = meet_holds (type_range scalar) r y h k

wraps : (scalar : Scalar) (o : Option Range) (y : ℤ) → InEach y o → InEach (wrapped scalar y) (whole_each (type_range scalar) o)
wraps scalar None y k = k
wraps scalar (Some r) y k = unless_cases (type_range scalar) r (λ (t : Range). InRange (wrapped scalar y) t)
    (λ (p : least_of scalar ≤ℤ r.low) (q : r.high ≤ℤ greatest_of scalar). subst (λ (x : ℤ). InRange x r) (sym (wrapped_same scalar y (record { from = omega (arith, ints, p, k.from); to = omega (arith, ints, q, k.to) }))) k)
    (λ (_ : (r.low <ℤ least_of scalar) ⊎ (greatest_of scalar <ℤ r.high)). wrapped_in scalar y)

differ : (b : Bool) → b ≡ true → b ≡ false → ⊥
differ true e f = cc
differ false e f = cc

pub fitted_holds : (mode : Mode) (scalar : Scalar) (o : Option Range) (y x : ℤ) → kept mode scalar y ≡ okay x → InEach y o → InEach x (fitted mode scalar o)
fitted_holds mode scalar o y x h k = fit_cases mode scalar o (InEach x)
    (λ s. elim (kept_cases mode scalar y x h) [ inl c ↦ subst (λ (z : ℤ). InEach z (meet_each (type_range scalar) o)) c.2 (meets scalar o y c.1 k) | inr c ↦ absurd (differ (traps_outside mode scalar) s c.0) ])
    (λ s. elim (kept_cases mode scalar y x h) [ inl c ↦ absurd (differ (traps_outside mode scalar) c.0 s) | inr c ↦ subst (λ (z : ℤ). InEach z (whole_each (type_range scalar) o)) c.1 (wraps scalar o y k) ])

-- a quotient that does not trap lies in the scalar
pub divided_holds : (scalar : Scalar) (o : Option Range) (z w x : ℤ) → within scalar (int_div z w) ≡ okay x → InEach (int_div z w) o → InEach x (meet_each (type_range scalar) o)
divided_holds scalar o z w x e i = let c = within_is scalar (int_div z w) x e in subst (λ (y : ℤ). InEach y (meet_each (type_range scalar) o)) c.1 (meets scalar o (int_div z w) c.0 i)

-- ---- of the scalar, and not empty
abbrev pub EachInside : Scalar → Option Range → Type 0
EachInside scalar None = Unit {0}
EachInside scalar (Some r) = IsInside scalar r

pub type_inside : (scalar : Scalar) → IsInside scalar (type_range scalar)
type_inside scalar = let t = type_zero scalar in record { low = omega (arith, ints); high = omega (arith, ints); full = omega (arith, ints, t.0, t.1) }

pub meet_inside : (scalar : Scalar) (o : Option Range) → EachInside scalar (meet_each (type_range scalar) o)
meet_inside scalar None = tt
meet_inside scalar (Some r) = by (int_le (int_max (least_of scalar) r.low) (int_min (greatest_of scalar) r.high)) refl
  where
    by : (b : Bool) → int_le (int_max (least_of scalar) r.low) (int_min (greatest_of scalar) r.high) ≡ b → EachInside scalar (cond b (Some (record { low = int_max (least_of scalar) r.low; high = int_min (greatest_of scalar) r.high })) None)
    by true e = let h : int_max (least_of scalar) r.low ≤ℤ int_min (greatest_of scalar) r.high = (le_tells _ _).is_so e in record { low = omega (arith, ints, clamps); high = omega (arith, ints, clamps); full = h }
    by false e = tt

abbrev pub IsFullEach : Option Range → Type 0
IsFullEach None = Unit {0}
IsFullEach (Some r) = r.low ≤ℤ r.high

pub whole_inside : (scalar : Scalar) (o : Option Range) → IsFullEach o → EachInside scalar (whole_each (type_range scalar) o)
whole_inside scalar None f = tt
whole_inside scalar (Some r) f = unless_cases (type_range scalar) r (IsInside scalar) (λ p q. record { low = p; high = q; full = f }) (λ _. type_inside scalar)

pub fitted_inside : (mode : Mode) (scalar : Scalar) (o : Option Range) → IsFullEach o → EachInside scalar (fitted mode scalar o)
fitted_inside mode scalar o f = fit_cases mode scalar o (EachInside scalar) (λ _. meet_inside scalar o) (λ _. whole_inside scalar o f)

pub hull_full : (ok : ℤ → Type 0) (f : ℤ → ℤ → ℤ) (F : Range → Range → Option Range) → IsHull ok f F → (r s : Range) → r.low ≤ℤ r.high → s.low ≤ℤ s.high → IsFullEach (F r s)
hull_full ok f F hull r s p q = by (F r s) refl (hull.reached r s p q)
  where
    by : (o : Option Range) → F r s ≡ o → EndsReached ok f r s o → IsFullEach o
    by None e h = tt
    by (Some t) e h =
        let low = h.0 in
        let k : InEach (f low.left low.right) (Some t) = subst (InEach (f low.left low.right)) e (hull.holds r s low.left low.right low.in_left low.in_right low.allowed) in
        let m : f low.left low.right ≡ t.low = low.is in
        let n : f low.left low.right ≤ℤ t.high = k.to in
        subst (λ (y : ℤ). y ≤ℤ t.high) m n

-- ---- monotone
whole_each_monotone : (t : Range) → t.low ≤ℤ t.high → (o p : Option Range) → IsFullEach o → WithinEach o p → WithinEach (whole_each t o) (whole_each t p)
whole_each_monotone t q None p f h = tt
whole_each_monotone t q (Some r) None f h = h
whole_each_monotone t q (Some r) (Some s) f h = whole_monotone t r s f q h

pub meet_each_monotone : (t : Range) (o p : Option Range) → WithinEach o p → WithinEach (meet_each t o) (meet_each t p)
meet_each_monotone t None p h = tt
meet_each_monotone t (Some r) None h = absurd h
meet_each_monotone t (Some r) (Some s) h = meet_monotone t r s h

pub fitted_monotone : (mode : Mode) (scalar : Scalar) (o p : Option Range) → IsFullEach o → WithinEach o p → WithinEach (fitted mode scalar o) (fitted mode scalar p)
fitted_monotone mode scalar o p f h = by (traps_outside mode scalar)
  where
    by : (b : Bool) → WithinEach (cond b (meet_each (type_range scalar) o) (whole_each (type_range scalar) o)) (cond b (meet_each (type_range scalar) p) (whole_each (type_range scalar) p))
    by true = meet_each_monotone (type_range scalar) o p h
    by false = whole_each_monotone (type_range scalar) (type_inside scalar).full o p f h
