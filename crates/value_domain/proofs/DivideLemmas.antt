-- The quotients of two intervals.
use Rattle.std.proofs.Common.{cond, ◌≡◌, ℕ, zero, suc, ◌*◌, ◌/◌, ◌<◌, ◌≤◌, ℤ, pos, negsuc, neg_ℤ, ◌≤ℤ◌, ◌<ℤ◌, ◌⊎◌, inl, inr, Bool, true, false, refl, int_lt, int_div, arith, Option, Some, None}
use Rattle.std.specs.Int.{int_min, int_max}
use Rattle.std.proofs.lemmas.Int.{ints, clamps}
use Rattle.std.proofs.lemmas.Nat.{mul-le, le-div}
use Rattle.std.proofs.Math.Nat.{div-mul-le_self}
use Rattle.value_domain.specs.declared.range.Range.{Range}
use Rattle.value_domain.specs.Ranges.{InRange, Within, InEach, IsResult, EndsReached, IsHull, Between, IsSteady, corners, corners_each, hull_each, below_zero, above_zero, IsNegative, IsPositive, quotient_range}
use Rattle.value_domain.proofs.RangeLemmas.{between_up, between_down, corners_hull, corners_reached}
use Rattle.value_domain.specs.FitLemmas.{picked_min, picked_max}

div_mono : (a b k : ℕ) → 0 < k → a ≤ b → a / k ≤ b / k
div_mono a b k p h = let e : a / k * k ≤ a = div-mul-le_self a k in le-div (a / k) b k p (omega arith)

div_anti : (a c w : ℕ) → 0 < c → c ≤ w → a / w ≤ a / c
div_anti a c w p h =
    let e : a / w * w ≤ a = div-mul-le_self a w in
    let f : a / w * c ≤ a / w * w = mul-le (a / w) c (a / w) w (omega arith) h in
    le-div (a / w) a c p (omega arith)

-- a positive divisor
quot_up : (a z : ℤ) (n : ℕ) → 0 < n → a ≤ℤ z → int_div a (pos n) ≤ℤ int_div z (pos n)
quot_up (pos a) (pos z) n p h = let k : a / n ≤ z / n = div_mono a z n p (omega (arith, ints)) in omega (arith, ints)
quot_up (pos a) (negsuc z) n p h = absurd (omega (arith, ints))
quot_up (negsuc a) (pos z) n p h = omega (arith, ints)
quot_up (negsuc a) (negsuc z) n p h = let k : suc z / n ≤ suc a / n = div_mono (suc z) (suc a) n p (omega (arith, ints)) in omega (arith, ints)

quot_turned : (z : ℤ) (n : ℕ) → int_div z (negsuc n) ≡ neg_ℤ (int_div z (pos (suc n)))
quot_turned (pos z) n = refl
quot_turned (negsuc z) n = double (suc z / suc n)
  where
    double : (n : ℕ) → pos n ≡ neg_ℤ (neg_ℤ (pos n))
    double zero = refl
    double (suc n) = refl

between_turned : (x p q : ℤ) → Between x p q → Between (neg_ℤ x) (neg_ℤ p) (neg_ℤ q)
between_turned x p q h = record { above = omega (arith, ints, clamps); below = omega (arith, ints, clamps) }

quot_left : (a z b w : ℤ) → IsPositive w → a ≤ℤ z → z ≤ℤ b → Between (int_div z w) (int_div a w) (int_div b w)
quot_left a z b (pos n) p h k = let m : 0 < n = omega (arith, ints) in between_up _ _ _ (quot_up a z n m h) (quot_up z b n m k)
quot_left a z b (negsuc n) p h k = absurd (omega (arith, ints))

quot_right : (z c w d : ℤ) → IsPositive c → c ≤ℤ w → w ≤ℤ d → Between (int_div z w) (int_div z c) (int_div z d)
quot_right z (negsuc c) w d p h k = absurd (omega (arith, ints))
quot_right z (pos c) (negsuc w) d p h k = absurd (omega (arith, ints))
quot_right z (pos c) (pos w) (negsuc d) p h k = absurd (omega (arith, ints))
quot_right (pos z) (pos c) (pos w) (pos d) p h k =
    let e : z / w ≤ z / c = div_anti z c w (omega (arith, ints)) (omega (arith, ints)) in
    let f : z / d ≤ z / w = div_anti z w d (omega (arith, ints)) (omega (arith, ints)) in
    between_down _ _ _ (omega (arith, ints)) (omega (arith, ints))
quot_right (negsuc z) (pos c) (pos w) (pos d) p h k =
    let e : suc z / w ≤ suc z / c = div_anti (suc z) c w (omega (arith, ints)) (omega (arith, ints)) in
    let f : suc z / d ≤ suc z / w = div_anti (suc z) w d (omega (arith, ints)) (omega (arith, ints)) in
    between_up _ _ _ (omega (arith, ints)) (omega (arith, ints))

quot_steady : IsSteady IsPositive int_div
quot_steady = record {
  left = λ a z b w p h k. quot_left a z b w p h k;
  right = λ z c w d p _ h k. quot_right z c w d p h k;
}

quot_left_turned : (a z b w : ℤ) → IsNegative w → a ≤ℤ z → z ≤ℤ b → Between (int_div z w) (int_div a w) (int_div b w)
quot_left_turned a z b (pos n) p h k = absurd (omega (arith, ints))
quot_left_turned a z b (negsuc n) p h k =
    rw (quot_turned z n, quot_turned a n, quot_turned b n) (between_turned _ _ _ (quot_left a z b (pos (suc n)) (omega (arith, ints)) h k))

between_swap : (x p q : ℤ) → Between x p q → Between x q p
between_swap x p q h = record { above = omega (arith, ints, clamps); below = omega (arith, ints, clamps) }

quot_right_turned : (z c w d : ℤ) → IsNegative d → c ≤ℤ w → w ≤ℤ d → Between (int_div z w) (int_div z c) (int_div z d)
quot_right_turned z c w (pos d) p h k = absurd (omega (arith, ints))
quot_right_turned z c (pos w) (negsuc d) p h k = absurd (omega (arith, ints))
quot_right_turned z (pos c) (negsuc w) (negsuc d) p h k = absurd (omega (arith, ints))
quot_right_turned z (negsuc c) (negsuc w) (negsuc d) p h k =
    rw (quot_turned z w, quot_turned z c, quot_turned z d) (between_swap _ _ _ (between_turned _ _ _ (quot_right z (pos (suc d)) (pos (suc w)) (pos (suc c)) (omega (arith, ints)) (omega (arith, ints)) (omega (arith, ints)))))

quot_steady_turned : IsSteady IsNegative int_div
quot_steady_turned = record {
  left = λ a z b w p h k. quot_left_turned a z b w p h k;
  right = λ z c w d _ p h k. quot_right_turned z c w d p h k;
}

-- ---- the part of an interval on which the function is steady
-- what the part of an interval promises: its ends are allowed numbers of it, and it holds each allowed one
abbrev IsPart : (ℤ → Type 0) → Range → Option Range → Type 0
IsPart ok s None = (w : ℤ) → InRange w s → ok w → ⊥
IsPart ok s (Some t) = ok t.low × ok t.high × ((w : ℤ) → InRange w s → ok w → InRange w t) × Within t s × (t.low ≤ℤ t.high)

abbrev PartOf : (ℤ → Type 0) → (Range → Option Range) → Type 0
PartOf ok part = (s : Range) → s.low ≤ℤ s.high → IsPart ok s (part s)

result_in : (ok : ℤ → Type 0) (f : ℤ → ℤ → ℤ) (r s t : Range) (x : ℤ) → Within t s → IsResult ok f r t x → IsResult ok f r s x
result_in ok f r s t x v h = record { left = h.left; right = h.right; in_left = h.in_left; in_right = record { from = omega (arith, ints, h.in_right.from); to = omega (arith, ints, h.in_right.to) }; allowed = h.allowed; is = h.is }

part_holds : (ok : ℤ → Type 0) (f : ℤ → ℤ → ℤ) → IsSteady ok f → (r s : Range) (z w : ℤ) → (o : Option Range) → IsPart ok s o → InRange z r → InRange w s → ok w → InEach (f z w) (corners_each f r o)
part_holds ok f steady r s z w None part h k m = absurd (part w k m)
part_holds ok f steady r s z w (Some t) part h k m = corners_hull ok f steady r t z w part.0 part.1 m h (part.2 w k m)

part_reached : (ok : ℤ → Type 0) (f : ℤ → ℤ → ℤ) (r s : Range) → (o : Option Range) → IsPart ok s o → r.low ≤ℤ r.high → EndsReached ok f r s (corners_each f r o)
part_reached ok f r s None part p = tt
part_reached ok f r s (Some t) part p =
    let e : EndsReached ok f r t (Some (corners f r t)) = corners_reached ok f r t part.0 part.1 p part.4 in
    (result_in ok f r s t _ part.3 e.0, result_in ok f r s t _ part.3 e.1)

below_part : PartOf IsNegative below_zero
below_part s p = by (int_lt s.low (pos 0)) refl
  where
    by : (b : Bool) → int_lt s.low (pos 0) ≡ b → IsPart IsNegative s (cond b (Some (record { low = s.low; high = int_min s.high (negsuc 0) })) None)
    by true e = let h : s.low <ℤ pos 0 = grind (arith, ints) in (h, omega (arith, ints, clamps), λ (w : ℤ) (k : InRange w s) (m : IsNegative w). record { from = k.from; to = omega (arith, ints, clamps) }, record { low = omega (arith, ints); high = omega (arith, ints, clamps) }, omega (arith, ints, clamps))
    by false e = λ (w : ℤ) (k : InRange w s) (m : IsNegative w). let h : pos 0 ≤ℤ s.low = grind (arith, ints) in omega (arith, ints)

above_part : PartOf IsPositive above_zero
above_part s p = by (int_lt (pos 0) s.high) refl
  where
    by : (b : Bool) → int_lt (pos 0) s.high ≡ b → IsPart IsPositive s (cond b (Some (record { low = int_max s.low (pos 1); high = s.high })) None)
    by true e = let h : pos 0 <ℤ s.high = grind (arith, ints) in (omega (arith, ints, clamps), h, λ (w : ℤ) (k : InRange w s) (m : IsPositive w). record { from = omega (arith, ints, clamps); to = k.to }, record { low = omega (arith, ints, clamps); high = omega (arith, ints) }, omega (arith, ints, clamps))
    by false e = λ (w : ℤ) (k : InRange w s) (m : IsPositive w). let h : s.high ≤ℤ pos 0 = grind (arith, ints) in omega (arith, ints)

-- ---- the hull of two hulls
abbrev pub IsNonZero : ℤ → Type 0
IsNonZero z = IsNegative z ⊎ IsPositive z

in_hull_left : (x : ℤ) (o p : Option Range) → InEach x o → InEach x (hull_each o p)
in_hull_left x None p h = absurd h
in_hull_left x (Some r) None h = h
in_hull_left x (Some r) (Some s) h = record { from = omega (arith, ints, clamps); to = omega (arith, ints, clamps) }

in_hull_right : (x : ℤ) (o p : Option Range) → InEach x p → InEach x (hull_each o p)
in_hull_right x None p h = h
in_hull_right x (Some r) None h = absurd h
in_hull_right x (Some r) (Some s) h = record { from = omega (arith, ints, clamps); to = omega (arith, ints, clamps) }

allowed_left : (f : ℤ → ℤ → ℤ) (r s : Range) (x : ℤ) → IsResult IsNegative f r s x → IsResult IsNonZero f r s x
allowed_left f r s x h = record { left = h.left; right = h.right; in_left = h.in_left; in_right = h.in_right; allowed = inl h.allowed; is = h.is }

allowed_right : (f : ℤ → ℤ → ℤ) (r s : Range) (x : ℤ) → IsResult IsPositive f r s x → IsResult IsNonZero f r s x
allowed_right f r s x h = record { left = h.left; right = h.right; in_left = h.in_left; in_right = h.in_right; allowed = inr h.allowed; is = h.is }

hull_reached : (f : ℤ → ℤ → ℤ) (r s : Range) (o p : Option Range) → EndsReached IsNegative f r s o → EndsReached IsPositive f r s p → EndsReached IsNonZero f r s (hull_each o p)
hull_reached f r s None None h k = tt
hull_reached f r s None (Some u) h k = (allowed_right f r s _ k.0, allowed_right f r s _ k.1)
hull_reached f r s (Some t) None h k = (allowed_left f r s _ h.0, allowed_left f r s _ h.1)
hull_reached f r s (Some t) (Some u) h k =
    let P : ℤ → Type 0 = λ (x : ℤ). IsResult IsNonZero f r s x in
    (picked_min _ _ P (allowed_left f r s _ h.0) (allowed_right f r s _ k.0), picked_max _ _ P (allowed_left f r s _ h.1) (allowed_right f r s _ k.1))

quotient_holds : (r s : Range) (z w : ℤ) → InRange z r → InRange w s → IsNonZero w → InEach (int_div z w) (quotient_range r s)
quotient_holds r s z w h k (inl m) = in_hull_left _ (corners_each int_div r (below_zero s)) (corners_each int_div r (above_zero s)) (part_holds IsNegative int_div quot_steady_turned r s z w (below_zero s) (below_part s (omega (arith, ints))) h k m)
quotient_holds r s z w h k (inr m) = in_hull_right _ (corners_each int_div r (below_zero s)) (corners_each int_div r (above_zero s)) (part_holds IsPositive int_div quot_steady r s z w (above_zero s) (above_part s (omega (arith, ints))) h k m)

pub quotient_hull : IsHull IsNonZero int_div quotient_range
quotient_hull = record {
  holds = quotient_holds;
  reached = λ r s p q. hull_reached int_div r s (corners_each int_div r (below_zero s)) (corners_each int_div r (above_zero s)) (part_reached IsNegative int_div r s (below_zero s) (below_part s q) p) (part_reached IsPositive int_div r s (above_zero s) (above_part s q) p);
}
