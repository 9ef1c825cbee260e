-- Rounding down is below, monotone, and leaves thresholds alone; rounding up likewise.
use Rattle.std.proofs.Common.{length, get_or, ◌+◌, ◌≡◌, ℕ, zero, suc, ◌<◌, ◌≤◌, ℤ, pos, ◌≤ℤ◌, ◌<ℤ◌, ◌⊎◌, inl, inr, Bool, true, false, refl, cond, int_le, arith, List, [], ◌∷◌, Option, Some, None}
use Rattle.std.specs.Int.{int_min, int_max}
use Rattle.std.proofs.lemmas.Int.{ints, clamps}
use Rattle.value_domain.specs.declared.range.Range.{Range}
use Rattle.value_domain.specs.Ranges.{WithinEach}
use Rattle.value_domain.specs.RangeOperators.{floor_of, ceiling_of, lowest, highest, rounded_each, IsRising, Searched}
use Rattle.std.proofs.lemmas.Bool.{cases_lt}
use Rattle.value_domain.specs.FitLemmas.{le_tells, picked_min, picked_max}
use Rattle.lattice_parts.specs.Sets.{Has}

-- a choice by an order
pub by_order : (a b : ℤ) (x y : ℤ) (P : ℤ → Type 0) → (a ≤ℤ b → P x) → (b <ℤ a → P y) → P (cond (int_le a b) x y)
by_order a b x y P h k = by (int_le a b) refl
  where
    by : (v : Bool) → int_le a b ≡ v → P (cond v x y)
    by true e = h ((le_tells a b).is_so e)
    by false e = k (grind (arith, ints))

pub floor_below : (least : ℤ) (ts : List ℤ) (z : ℤ) → least ≤ℤ z → floor_of least ts z ≤ℤ z
floor_below least [] z h = h
floor_below least (t ∷ ts) z h =
    let below : floor_of least ts z ≤ℤ z = floor_below least ts z h in
    by_order t z _ _ (λ (x : ℤ). x ≤ℤ z) (λ (k : t ≤ℤ z). omega (arith, ints, clamps)) (λ (k : z <ℤ t). below)

pub floor_monotone : (least : ℤ) (ts : List ℤ) (y z : ℤ) → y ≤ℤ z → floor_of least ts y ≤ℤ floor_of least ts z
floor_monotone least [] y z h = omega (arith, ints)
floor_monotone least (t ∷ ts) y z h =
    let below : floor_of least ts y ≤ℤ floor_of least ts z = floor_monotone least ts y z h in
    by_order t y _ _ (λ (x : ℤ). x ≤ℤ cond (int_le t z) (int_max t (floor_of least ts z)) (floor_of least ts z))
    (λ (k : t ≤ℤ y). by_order t z _ _ (λ (x : ℤ). int_max t (floor_of least ts y) ≤ℤ x) (λ (m : t ≤ℤ z). omega (arith, ints, clamps)) (λ (m : z <ℤ t). absurd (omega (arith, ints))))
    (λ (k : y <ℤ t). by_order t z _ _ (λ (x : ℤ). floor_of least ts y ≤ℤ x) (λ (m : t ≤ℤ z). omega (arith, ints, clamps)) (λ (m : z <ℤ t). below))

pub ceiling_above : (most : ℤ) (ts : List ℤ) (z : ℤ) → z ≤ℤ most → z ≤ℤ ceiling_of most ts z
ceiling_above most [] z h = h
ceiling_above most (t ∷ ts) z h =
    let above : z ≤ℤ ceiling_of most ts z = ceiling_above most ts z h in
    by_order z t _ _ (λ (x : ℤ). z ≤ℤ x) (λ (k : z ≤ℤ t). omega (arith, ints, clamps)) (λ (k : t <ℤ z). above)

pub ceiling_monotone : (most : ℤ) (ts : List ℤ) (y z : ℤ) → y ≤ℤ z → ceiling_of most ts y ≤ℤ ceiling_of most ts z
ceiling_monotone most [] y z h = omega (arith, ints)
ceiling_monotone most (t ∷ ts) y z h =
    let below : ceiling_of most ts y ≤ℤ ceiling_of most ts z = ceiling_monotone most ts y z h in
    by_order y t _ _ (λ (x : ℤ). x ≤ℤ cond (int_le z t) (int_min t (ceiling_of most ts z)) (ceiling_of most ts z))
    (λ (k : y ≤ℤ t). by_order z t _ _ (λ (x : ℤ). int_min t (ceiling_of most ts y) ≤ℤ x) (λ (m : z ≤ℤ t). omega (arith, ints, clamps)) (λ (m : t <ℤ z). omega (arith, ints, clamps)))
    (λ (k : t <ℤ y). by_order z t _ _ (λ (x : ℤ). ceiling_of most ts y ≤ℤ x) (λ (m : z ≤ℤ t). absurd (omega (arith, ints))) (λ (m : t <ℤ z). below))

pub rounded_monotone : (ts : List ℤ) (o p : Option Range) → WithinEach o p → WithinEach (rounded_each ts o) (rounded_each ts p)
rounded_monotone ts None p h = tt
rounded_monotone ts (Some r) None h = h
rounded_monotone ts (Some r) (Some s) h = record { low = floor_monotone lowest ts s.low r.low h.low; high = ceiling_monotone highest ts r.high s.high h.high }

-- ---- the greatest threshold up to z, by its properties
pub floor_least : (least : ℤ) (ts : List ℤ) (z : ℤ) → least ≤ℤ floor_of least ts z
floor_least least [] z = omega (arith, ints)
floor_least least (t ∷ ts) z =
    let h : least ≤ℤ floor_of least ts z = floor_least least ts z in
    by_order t z _ _ (λ (x : ℤ). least ≤ℤ x) (λ (k : t ≤ℤ z). omega (arith, ints, clamps)) (λ (k : z <ℤ t). h)

pub floor_over : (least : ℤ) (ts : List ℤ) (z : ℤ) (k : ℕ) → k < length ts → get_or ts k (pos 0) ≤ℤ z → get_or ts k (pos 0) ≤ℤ floor_of least ts z
floor_over least [] z k h p = absurd (omega arith)
floor_over least (t ∷ ts) z zero h p = by_order t z _ _ (λ (x : ℤ). t ≤ℤ x) (λ (m : t ≤ℤ z). omega (arith, ints, clamps)) (λ (m : z <ℤ t). absurd (omega (arith, ints)))
floor_over least (t ∷ ts) z (suc k) h p =
    let over : get_or ts k (pos 0) ≤ℤ floor_of least ts z = floor_over least ts z k (omega arith) p in
    by_order t z _ _ (λ (x : ℤ). get_or ts k (pos 0) ≤ℤ x) (λ (m : t ≤ℤ z). omega (arith, ints, clamps)) (λ (m : z <ℤ t). over)

pub floor_under : (least : ℤ) (ts : List ℤ) (z m : ℤ) → least ≤ℤ m → ((k : ℕ) → k < length ts → get_or ts k (pos 0) ≤ℤ z → get_or ts k (pos 0) ≤ℤ m) → floor_of least ts z ≤ℤ m
floor_under least [] z m h each = h
floor_under least (t ∷ ts) z m h each =
    let under : floor_of least ts z ≤ℤ m = floor_under least ts z m h (λ (k : ℕ) (b : k < length ts) (p : get_or ts k (pos 0) ≤ℤ z). each (suc k) (omega arith) p) in
    by_order t z _ _ (λ (x : ℤ). x ≤ℤ m) (λ (n : t ≤ℤ z). let first : t ≤ℤ m = each zero (omega arith) n in omega (arith, ints, clamps)) (λ (n : z <ℤ t). under)

both_ways : (x y : ℤ) → x ≤ℤ y → y ≤ℤ x → x ≡ y
both_ways x y h k = omega (arith, ints)

pub floor_none : (least : ℤ) (ts : List ℤ) (z : ℤ) → ((k : ℕ) → 0 ≤ k → k < length ts → z <ℤ get_or ts k (pos 0)) → floor_of least ts z ≡ least
floor_none least ts z above = both_ways _ _ (floor_under least ts z least (omega (arith, ints)) (λ (k : ℕ) (b : k < length ts) (p : get_or ts k (pos 0) ≤ℤ z). let q : z <ℤ get_or ts k (pos 0) = above k (omega arith) b in absurd (omega (arith, ints)))) (floor_least least ts z)

pub floor_at : (least : ℤ) (ts : List ℤ) (z : ℤ) (n : ℕ) → IsRising ts → least ≤ℤ get_or ts n (pos 0) → n < length ts → get_or ts n (pos 0) ≤ℤ z → ((k : ℕ) → n + 1 ≤ k → k < length ts → z <ℤ get_or ts k (pos 0)) → floor_of least ts z ≡ get_or ts n (pos 0)
floor_at least ts z n rising first within below above =
    both_ways _ _ (floor_under least ts z _ first (λ (k : ℕ) (b : k < length ts) (p : get_or ts k (pos 0) ≤ℤ z). by k b p (cases_lt n k))) (floor_over least ts z n within below)
  where
    by : (k : ℕ) → k < length ts → get_or ts k (pos 0) ≤ℤ z → (n < k) ⊎ (k ≤ n) → get_or ts k (pos 0) ≤ℤ get_or ts n (pos 0)
    by k b p (inl more) = let q : z <ℤ get_or ts k (pos 0) = above k (omega arith) b in absurd (omega (arith, ints))
    by k b p (inr up) = rising k n up within

pub up_to_middle : (ts : List ℤ) (z : ℤ) (m k : ℕ) → IsRising ts → m < length ts → k ≤ m → get_or ts m (pos 0) ≤ℤ z → get_or ts k (pos 0) ≤ℤ z
up_to_middle ts z m k rising within h p = let q : get_or ts k (pos 0) ≤ℤ get_or ts m (pos 0) = rising k m h within in omega (arith, ints)

pub from_middle : (ts : List ℤ) (z : ℤ) (m k : ℕ) → IsRising ts → m ≤ k → k < length ts → z <ℤ get_or ts m (pos 0) → z <ℤ get_or ts k (pos 0)
from_middle ts z m k rising h within p = let q : get_or ts m (pos 0) ≤ℤ get_or ts k (pos 0) = rising m k h within in omega (arith, ints)

pub search_right : (ts : List ℤ) (low high m : ℕ) (z : ℤ) → IsRising ts → Searched ts low high z → low ≤ m → m < high → get_or ts m (pos 0) ≤ℤ z → Searched ts (m + 1) high z
search_right ts low high m z rising s h k p = record {
  ordered = omega arith;
  within = s.within;
  under = λ n b. up_to_middle ts z m n rising (omega (arith, s.within)) (omega arith) p;
  over = s.over;
}

pub search_left : (ts : List ℤ) (low high m : ℕ) (z : ℤ) → IsRising ts → Searched ts low high z → low ≤ m → m < high → z <ℤ get_or ts m (pos 0) → Searched ts low m z
search_left ts low high m z rising s h k p = record {
  ordered = h;
  within = omega (arith, s.within);
  under = s.under;
  over = λ n b c. from_middle ts z m n rising b c p;
}

-- ---- rounding up: the mirror
pub ceiling_most : (most : ℤ) (ts : List ℤ) (z : ℤ) → ceiling_of most ts z ≤ℤ most
ceiling_most most [] z = omega (arith, ints)
ceiling_most most (t ∷ ts) z =
    let h : ceiling_of most ts z ≤ℤ most = ceiling_most most ts z in
    by_order z t _ _ (λ (x : ℤ). x ≤ℤ most) (λ (k : z ≤ℤ t). omega (arith, ints, clamps)) (λ (k : t <ℤ z). h)

pub ceiling_under : (most : ℤ) (ts : List ℤ) (z : ℤ) (k : ℕ) → k < length ts → z ≤ℤ get_or ts k (pos 0) → ceiling_of most ts z ≤ℤ get_or ts k (pos 0)
ceiling_under most [] z k h p = absurd (omega arith)
ceiling_under most (t ∷ ts) z zero h p = by_order z t _ _ (λ (x : ℤ). x ≤ℤ t) (λ (m : z ≤ℤ t). omega (arith, ints, clamps)) (λ (m : t <ℤ z). absurd (omega (arith, ints)))
ceiling_under most (t ∷ ts) z (suc k) h p =
    let under : ceiling_of most ts z ≤ℤ get_or ts k (pos 0) = ceiling_under most ts z k (omega arith) p in
    by_order z t _ _ (λ (x : ℤ). x ≤ℤ get_or ts k (pos 0)) (λ (m : z ≤ℤ t). omega (arith, ints, clamps)) (λ (m : t <ℤ z). under)

pub ceiling_over : (most : ℤ) (ts : List ℤ) (z m : ℤ) → m ≤ℤ most → ((k : ℕ) → k < length ts → z ≤ℤ get_or ts k (pos 0) → m ≤ℤ get_or ts k (pos 0)) → m ≤ℤ ceiling_of most ts z
ceiling_over most [] z m h each = h
ceiling_over most (t ∷ ts) z m h each =
    let over : m ≤ℤ ceiling_of most ts z = ceiling_over most ts z m h (λ (k : ℕ) (b : k < length ts) (p : z ≤ℤ get_or ts k (pos 0)). each (suc k) (omega arith) p) in
    by_order z t _ _ (λ (x : ℤ). m ≤ℤ x) (λ (n : z ≤ℤ t). let first : m ≤ℤ t = each zero (omega arith) n in omega (arith, ints, clamps)) (λ (n : t <ℤ z). over)

pub ceiling_none : (most : ℤ) (ts : List ℤ) (z : ℤ) → ((k : ℕ) → k < length ts → get_or ts k (pos 0) <ℤ z) → ceiling_of most ts z ≡ most
ceiling_none most ts z below = both_ways _ _ (ceiling_most most ts z) (ceiling_over most ts z most (omega (arith, ints)) (λ (k : ℕ) (b : k < length ts) (p : z ≤ℤ get_or ts k (pos 0)). let q : get_or ts k (pos 0) <ℤ z = below k b in absurd (omega (arith, ints))))

pub ceiling_at : (most : ℤ) (ts : List ℤ) (z : ℤ) (n : ℕ) → IsRising ts → get_or ts n (pos 0) ≤ℤ most → n < length ts → z ≤ℤ get_or ts n (pos 0) → ((k : ℕ) → k < n → get_or ts k (pos 0) <ℤ z) → ceiling_of most ts z ≡ get_or ts n (pos 0)
ceiling_at most ts z n rising last within above below =
    both_ways _ _ (ceiling_under most ts z n within above) (ceiling_over most ts z _ last (λ (k : ℕ) (b : k < length ts) (p : z ≤ℤ get_or ts k (pos 0)). by k b p (cases_lt k n)))
  where
    by : (k : ℕ) → k < length ts → z ≤ℤ get_or ts k (pos 0) → (k < n) ⊎ (n ≤ k) → get_or ts n (pos 0) ≤ℤ get_or ts k (pos 0)
    by k b p (inl less) = let q : get_or ts k (pos 0) <ℤ z = below k less in absurd (omega (arith, ints))
    by k b p (inr up) = rising n k up b

-- ---- ends among the thresholds
pub floor_in : (least : ℤ) (ts us : List ℤ) (z : ℤ) → Has least us → ((t : ℤ) → Has t ts → Has t us) → Has (floor_of least ts z) us
floor_in least [] us z h s = h
floor_in least (t ∷ ts) us z h s =
    let rest : Has (floor_of least ts z) us = floor_in least ts us z h (λ u m. s u (inr m)) in
    by_order t z _ _ (λ (x : ℤ). Has x us) (λ (_ : t ≤ℤ z). picked_max t (floor_of least ts z) (λ (x : ℤ). Has x us) (s t (inl refl)) rest) (λ (_ : z <ℤ t). rest)

pub ceiling_in : (most : ℤ) (ts us : List ℤ) (z : ℤ) → Has most us → ((t : ℤ) → Has t ts → Has t us) → Has (ceiling_of most ts z) us
ceiling_in most [] us z h s = h
ceiling_in most (t ∷ ts) us z h s =
    let rest : Has (ceiling_of most ts z) us = ceiling_in most ts us z h (λ u m. s u (inr m)) in
    by_order z t _ _ (λ (x : ℤ). Has x us) (λ (_ : z ≤ℤ t). picked_min t (ceiling_of most ts z) (λ (x : ℤ). Has x us) (s t (inl refl)) rest) (λ (_ : t <ℤ z). rest)

-- a threshold below z is below the floor, and one above z above the ceiling
pub floor_keeps : (least : ℤ) (ts : List ℤ) (z t : ℤ) → Has t ts → t ≤ℤ z → t ≤ℤ floor_of least ts z
floor_keeps least [] z t h p = absurd h
floor_keeps least (u ∷ ts) z t (inl e) p = by_order u z _ _ (λ (x : ℤ). t ≤ℤ x) (λ (_ : u ≤ℤ z). omega (arith, ints, clamps)) (λ (m : z <ℤ u). absurd (omega (arith, ints)))
floor_keeps least (u ∷ ts) z t (inr h) p =
    let rest : t ≤ℤ floor_of least ts z = floor_keeps least ts z t h p in
    by_order u z _ _ (λ (x : ℤ). t ≤ℤ x) (λ (_ : u ≤ℤ z). omega (arith, ints, clamps)) (λ (_ : z <ℤ u). rest)

pub ceiling_keeps : (most : ℤ) (ts : List ℤ) (z t : ℤ) → Has t ts → z ≤ℤ t → ceiling_of most ts z ≤ℤ t
ceiling_keeps most [] z t h p = absurd h
ceiling_keeps most (u ∷ ts) z t (inl e) p = by_order z u _ _ (λ (x : ℤ). x ≤ℤ t) (λ (_ : z ≤ℤ u). omega (arith, ints, clamps)) (λ (m : u <ℤ z). absurd (omega (arith, ints)))
ceiling_keeps most (u ∷ ts) z t (inr h) p =
    let rest : ceiling_of most ts z ≤ℤ t = ceiling_keeps most ts z t h p in
    by_order z u _ _ (λ (x : ℤ). x ≤ℤ t) (λ (_ : z ≤ℤ u). omega (arith, ints, clamps)) (λ (_ : u <ℤ z). rest)
