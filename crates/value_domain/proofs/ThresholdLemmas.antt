-- Lawful thresholds by index.
use Rattle.std.proofs.Common.{length, get_or, ◌-◌, ◌≡◌, ℕ, zero, suc, ◌<◌, ◌≤◌, ℤ, pos, ◌≤ℤ◌, ◌<ℤ◌, ◌⊎◌, inl, inr, refl, sym, ◌∙◌, subst, int_lt, arith, List, [], ◌∷◌}
use Rattle.std.proofs.lemmas.Int.{ints}
use Rattle.std.proofs.lemmas.Bool.{cases_lt}
use Rattle.lattice_parts.specs.Sets.{Has, Above, Ascending}
use Rattle.value_domain.specs.RangeOperators.{IsRising, lowest, highest}
use Rattle.value_domain.specs.Thresholds.{IsLawful}
use Rattle.value_domain.specs.RangeOperators.{ceiling_of}
use Rattle.value_domain.proofs.RangeSoundness.{lt_is}
use Rattle.value_domain.proofs.RoundingLemmas.{by_order, ceiling_at, ceiling_none}

above_at : (t : ℤ) (ts : List ℤ) (k : ℕ) → Above int_lt t ts → k < length ts → t <ℤ get_or ts k (pos 0)
above_at t [] k a h = absurd (omega arith)
above_at t (u ∷ ts) zero a h = lt_is t u a.0
above_at t (u ∷ ts) (suc k) a h = above_at t ts k a.1 (omega arith)

pub strictly : (ts : List ℤ) (i j : ℕ) → Ascending int_lt ts → i < j → j < length ts → get_or ts i (pos 0) <ℤ get_or ts j (pos 0)
strictly [] i j a h k = absurd (omega arith)
strictly (t ∷ ts) i zero a h k = absurd (omega arith)
strictly (t ∷ ts) zero (suc j) a h k = above_at t ts j a.0 (omega arith)
strictly (t ∷ ts) (suc i) (suc j) a h k = strictly ts i j a.1 (omega arith) (omega arith)

pub rises : (ts : List ℤ) → Ascending int_lt ts → IsRising ts
rises ts a i j h k = by (cases_lt i j)
  where
    by : (i < j) ⊎ (j ≤ i) → get_or ts i (pos 0) ≤ℤ get_or ts j (pos 0)
    by (inl l) = let p : get_or ts i (pos 0) <ℤ get_or ts j (pos 0) = strictly ts i j a l k in omega (arith, ints)
    by (inr u) = let e : i ≡ j = omega arith in subst (λ (n : ℕ). get_or ts i (pos 0) ≤ℤ get_or ts n (pos 0)) e (omega (arith, ints))

has_at : (ts : List ℤ) (k : ℕ) → k < length ts → Has (get_or ts k (pos 0)) ts
has_at [] k h = absurd (omega arith)
has_at (t ∷ ts) zero h = inl refl
has_at (t ∷ ts) (suc k) h = inr (has_at ts k (omega arith))

pub word_at : (ts : List ℤ) (k : ℕ) → IsLawful ts → k < length ts → (lowest ≤ℤ get_or ts k (pos 0)) × (get_or ts k (pos 0) ≤ℤ highest)
word_at ts k law h = law.words (get_or ts k (pos 0)) (has_at ts k h)

-- the first threshold from z on is the ceiling
pub ceiling_end : (ts : List ℤ) (z : ℤ) (n : ℕ) → IsLawful ts → n ≤ length ts → ((k : ℕ) → k < n → get_or ts k (pos 0) <ℤ z) → ((k : ℕ) → n ≤ k → k < length ts → z ≤ℤ get_or ts k (pos 0)) → get_or ts n highest ≡ ceiling_of highest ts z
ceiling_end ts z n law h below above = by (cases_lt n (length ts))
  where
    by : (n < length ts) ⊎ (length ts ≤ n) → get_or ts n highest ≡ ceiling_of highest ts z
    by (inl l) = default_same ts n l ∙ sym (ceiling_at highest ts z n (rises ts law.rising) (word_at ts n law l).1 l (above n (omega arith) l) below)
      where
        default_same : (ts : List ℤ) (n : ℕ) → n < length ts → get_or ts n highest ≡ get_or ts n (pos 0)
        default_same [] n h = absurd (omega arith)
        default_same (t ∷ ts) zero h = refl
        default_same (t ∷ ts) (suc n) h = default_same ts n (omega arith)
    by (inr u) = past ts n u ∙ sym (ceiling_none highest ts z (λ k l. below k (omega arith)))
      where
        past : (ts : List ℤ) (n : ℕ) → length ts ≤ n → get_or ts n highest ≡ highest
        past [] n h = refl
        past (t ∷ ts) zero h = absurd (omega arith)
        past (t ∷ ts) (suc n) h = past ts n (omega arith)

-- none is below z
pub ceiling_all : (ts : List ℤ) (z : ℤ) → IsLawful ts → ((k : ℕ) → k < length ts → z <ℤ get_or ts k (pos 0)) → get_or ts 0 highest ≡ ceiling_of highest ts z
ceiling_all ts z law above = ceiling_end ts z 0 law (omega arith) (λ k h. absurd (omega arith)) (λ k _ h. let p : z <ℤ get_or ts k (pos 0) = above k h in omega (arith, ints))

-- one is z
pub ceiling_found : (ts : List ℤ) (z : ℤ) (n : ℕ) → IsLawful ts → n < length ts → get_or ts n (pos 0) ≡ z → get_or ts n highest ≡ ceiling_of highest ts z
ceiling_found ts z n law h e = ceiling_end ts z n law (omega arith)
    (λ k l. subst (λ (y : ℤ). get_or ts k (pos 0) <ℤ y) e (strictly ts k n law.rising l h))
    (λ k l m. subst (λ (y : ℤ). y ≤ℤ get_or ts k (pos 0)) e (rises ts law.rising n k l m))

-- the last one not above z is not z
pub ceiling_after : (ts : List ℤ) (z : ℤ) (n : ℕ) → IsLawful ts → 0 < n → n ≤ length ts → get_or ts (n - 1) (pos 0) ≤ℤ z → (get_or ts (n - 1) (pos 0) ≡ z → ⊥) → ((k : ℕ) → n ≤ k → k < length ts → z <ℤ get_or ts k (pos 0)) → get_or ts n highest ≡ ceiling_of highest ts z
ceiling_after ts z n law p h below other above = ceiling_end ts z n law h
    (λ k l. let q : get_or ts k (pos 0) ≤ℤ get_or ts (n - 1) (pos 0) = rises ts law.rising k (n - 1) (omega arith) (omega arith) in let s : get_or ts (n - 1) (pos 0) <ℤ z = apart (get_or ts (n - 1) (pos 0)) z below other in omega (arith, ints))
    (λ k l m. let q : z <ℤ get_or ts k (pos 0) = above k l m in omega (arith, ints))
  where
    apart : (a b : ℤ) → a ≤ℤ b → (a ≡ b → ⊥) → a <ℤ b
    apart a b h n = elim (split a b h) [ inl e ↦ absurd (n e) | inr l ↦ l ]
      where
        split : (a b : ℤ) → a ≤ℤ b → (a ≡ b) ⊎ (a <ℤ b)
        split a b h = by_order b a (pos 0) (pos 0) (λ (_ : ℤ). (a ≡ b) ⊎ (a <ℤ b)) (λ k. inl (omega (arith, ints))) (λ k. inr k)
