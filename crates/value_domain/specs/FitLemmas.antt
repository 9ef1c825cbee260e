-- Fitting an interval to a type is sound and monotone.
use Rattle.std.proofs.Common.{cond, ◌≡◌, ℤ, ◌≤ℤ◌, ◌<ℤ◌, ◌⊎◌, inl, inr, Bool, true, false, ◌&&◌, refl, int_le, int_lt, arith, Some, None}
use Rattle.std.specs.Int.{int_min, int_max}
use Rattle.std.proofs.lemmas.Int.{ints, clamps}
use Rattle.value_domain.specs.declared.range.Range.{Range}
use Rattle.value_domain.specs.Ranges.{InRange, Within, WithinEach, InEach, meet_range, whole_unless}

-- a test of two orders
pub record Tells (b : Bool) (P : Type 0) : Type 0 where
  pub is_so : b ≡ true → P
  pub so_is : P → b ≡ true

pub le_tells : (a b : ℤ) → Tells (int_le a b) (a ≤ℤ b)
le_tells a b = record { is_so = λ h. grind (arith, ints); so_is = λ h. grind (arith, ints) }

pub meet_holds : (t r : Range) (z : ℤ) → InRange z t → InRange z r → InEach z (meet_range t r)
meet_holds t r z h k =
    rw ((le_tells (int_max t.low r.low) (int_min t.high r.high)).so_is (omega (arith, ints, clamps))) (record { from = omega (arith, ints, clamps); to = omega (arith, ints, clamps) })

pub meet_monotone : (t r s : Range) → Within r s → WithinEach (meet_range t r) (meet_range t s)
meet_monotone t r s w = by (int_le (int_max t.low r.low) (int_min t.high r.high)) refl
  where
    by : (b : Bool) → int_le (int_max t.low r.low) (int_min t.high r.high) ≡ b → WithinEach (cond b (Some (record { low = int_max t.low r.low; high = int_min t.high r.high })) None) (meet_range t s)
    by true e =
        let h : int_max t.low r.low ≤ℤ int_min t.high r.high = (le_tells _ _).is_so e in
        rw ((le_tells (int_max t.low s.low) (int_min t.high s.high)).so_is (omega (arith, ints, clamps))) (record { low = omega (arith, ints, clamps); high = omega (arith, ints, clamps) })
    by false e = tt

pub unless_cases : (t r : Range) (P : Range → Type 0) → (t.low ≤ℤ r.low → r.high ≤ℤ t.high → P r) → (((r.low <ℤ t.low) ⊎ (t.high <ℤ r.high)) → P t) → P (whole_unless t r)
unless_cases t r P h k = by (int_le t.low r.low) (int_le r.high t.high) refl refl
  where
    by : (a b : Bool) → int_le t.low r.low ≡ a → int_le r.high t.high ≡ b → P (cond (a && b) r t)
    by true true e f = h ((le_tells _ _).is_so e) ((le_tells _ _).is_so f)
    by true false e f = k (inr (grind (arith, ints)))
    by false b e f = k (inl (grind (arith, ints)))

pub whole_monotone : (t r s : Range) → r.low ≤ℤ r.high → t.low ≤ℤ t.high → Within r s → Within (whole_unless t r) (whole_unless t s)
whole_monotone t r s p q w =
    unless_cases t r (λ (x : Range). Within x (whole_unless t s))
    (λ (h : t.low ≤ℤ r.low) (k : r.high ≤ℤ t.high). unless_cases t s (λ (y : Range). Within r y) (λ (_ : t.low ≤ℤ s.low) (_ : s.high ≤ℤ t.high). w) (λ (_ : (s.low <ℤ t.low) ⊎ (t.high <ℤ s.high)). record { low = h; high = k }))
    (λ (h : (r.low <ℤ t.low) ⊎ (t.high <ℤ r.high)). unless_cases t s (λ (y : Range). Within t y) (λ (m : t.low ≤ℤ s.low) (n : s.high ≤ℤ t.high). absurd (outside h m n)) (λ (_ : (s.low <ℤ t.low) ⊎ (t.high <ℤ s.high)). record { low = omega (arith, ints); high = omega (arith, ints) }))
  where
    outside : (r.low <ℤ t.low) ⊎ (t.high <ℤ r.high) → t.low ≤ℤ s.low → s.high ≤ℤ t.high → ⊥
    outside (inl h) m n = omega (arith, ints)
    outside (inr h) m n = omega (arith, ints)

-- one of the two is the least or the greatest
pub picked_min : (p q : ℤ) (P : ℤ → Type 0) → P p → P q → P (int_min p q)
picked_min p q P a b = elim (int_lt q p) as (λ (v : Bool). P (cond v q p)) [ true ↦ b | false ↦ a ]

pub picked_max : (p q : ℤ) (P : ℤ → Type 0) → P p → P q → P (int_max p q)
picked_max p q P a b = elim (int_lt q p) as (λ (v : Bool). P (cond v p q)) [ true ↦ a | false ↦ b ]
