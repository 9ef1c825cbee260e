-- Operators on intervals are sound and monotone.
use Rattle.std.proofs.Common.{◌≡◌, ℕ, suc, ◌*◌, ◌≤◌, ℤ, pos, negsuc, neg_ℤ, ◌+ℤ◌, ◌-ℤ◌, ◌*ℤ◌, ◌≤ℤ◌, refl, sym, subst, arith, Option, Some, None}
use Rattle.std.specs.Int.{int_min, int_max}
use Rattle.std.proofs.lemmas.Int.{ints, clamps}
use Rattle.std.proofs.lemmas.Nat.{mul-le}
use Rattle.std.proofs.Math.IntN.{*ℤ_comm, neg_ℤ-neg_ℤ, pos-*ℤ-pos, negsuc-*ℤ-negsuc, negsuc-*ℤ-pos, pos-*ℤ-negsuc}
use Rattle.value_domain.specs.declared.range.Range.{Range}
use Rattle.value_domain.specs.FitLemmas.{picked_min, picked_max}
use Rattle.value_domain.specs.Ranges.{InRange, Within, WithinEach, InEach, IsResult, EndsReached, IsHull, Always, Between, IsSteady, corners, sum_range, difference_range, product_range}

-- ---- one lemma: a hull of results is monotone
wider : {r s : Range} {z : ℤ} → Within r s → InRange z r → InRange z s
wider w h = record { from = omega (arith, ints); to = omega (arith, ints) }

result_wider : (ok : ℤ → Type 0) (f : ℤ → ℤ → ℤ) (F : Range → Range → Option Range) (r s r' s' : Range) (x : ℤ) → IsHull ok f F → Within r r' → Within s s' → IsResult ok f r s x → InEach x (F r' s')
result_wider ok f F r s r' s' x hull v w h =
    subst (λ (y : ℤ). InEach y (F r' s')) h.is (hull.holds r' s' h.left h.right (wider v h.in_left) (wider w h.in_right) h.allowed)

within_from : (o p : Option Range) → ((t : Range) → o ≡ Some t → InEach t.low p × InEach t.high p) → WithinEach o p
within_from None p h = tt
within_from (Some t) None h = (h t refl).0
within_from (Some t) (Some u) h = record { low = (h t refl).0.from; high = (h t refl).1.to }

ends_in : (ok : ℤ → Type 0) (f : ℤ → ℤ → ℤ) (F : Range → Range → Option Range) (r s r' s' : Range) → IsHull ok f F → Within r r' → Within s s' → (o : Option Range) → EndsReached ok f r s o → (t : Range) → o ≡ Some t → InEach t.low (F r' s') × InEach t.high (F r' s')
ends_in ok f F r s r' s' hull v w None e t same = cc
ends_in ok f F r s r' s' hull v w (Some u) e t same =
    subst (λ (o : Option Range). EachEnd F r' s' o) same (result_wider ok f F r s r' s' u.low hull v w e.0, result_wider ok f F r s r' s' u.high hull v w e.1)
  where
    EachEnd : (Range → Range → Option Range) → Range → Range → Option Range → Type 0
    EachEnd F r' s' None = ⊥
    EachEnd F r' s' (Some t) = InEach t.low (F r' s') × InEach t.high (F r' s')

pub hull_monotone : (ok : ℤ → Type 0) (f : ℤ → ℤ → ℤ) (F : Range → Range → Option Range) → IsHull ok f F → (r s r' s' : Range) → r.low ≤ℤ r.high → s.low ≤ℤ s.high → Within r r' → Within s s' → WithinEach (F r s) (F r' s')
hull_monotone ok f F hull r s r' s' p q v w = within_from (F r s) (F r' s') (ends_in ok f F r s r' s' hull v w (F r s) (hull.reached r s p q))

-- ---- sum and difference
pub sum_hull : IsHull Always (λ z w. z +ℤ w) sum_range
sum_hull = record {
  holds = λ r s z w h k _. record { from = omega (arith, ints); to = omega (arith, ints) };
  reached = λ r s p q. (
    record { left = r.low; right = s.low; in_left = record { from = omega (arith, ints); to = p }; in_right = record { from = omega (arith, ints); to = q }; allowed = tt; is = refl },
    record { left = r.high; right = s.high; in_left = record { from = p; to = omega (arith, ints) }; in_right = record { from = q; to = omega (arith, ints) }; allowed = tt; is = refl },
  );
}

pub difference_hull : IsHull Always (λ z w. z -ℤ w) difference_range
difference_hull = record {
  holds = λ r s z w h k _. record { from = omega (arith, ints); to = omega (arith, ints) };
  reached = λ r s p q. (
    record { left = r.low; right = s.high; in_left = record { from = omega (arith, ints); to = p }; in_right = record { from = q; to = omega (arith, ints) }; allowed = tt; is = refl },
    record { left = r.high; right = s.low; in_left = record { from = p; to = omega (arith, ints) }; in_right = record { from = omega (arith, ints); to = q }; allowed = tt; is = refl },
  );
}

-- ---- corners
pub between_up : (x p q : ℤ) → p ≤ℤ x → x ≤ℤ q → Between x p q
between_up x p q h k = record { above = omega (arith, ints, clamps); below = omega (arith, ints, clamps) }

pub between_down : (x p q : ℤ) → x ≤ℤ p → q ≤ℤ x → Between x p q
between_down x p q h k = record { above = omega (arith, ints, clamps); below = omega (arith, ints, clamps) }

between_end : (x p q lo hi : ℤ) → Between x p q → lo ≤ℤ p → lo ≤ℤ q → p ≤ℤ hi → q ≤ℤ hi → (lo ≤ℤ x) × (x ≤ℤ hi)
between_end x p q lo hi b h k m n = (omega (arith, ints, clamps), omega (arith, ints, clamps))

min_left : (p q : ℤ) → int_min p q ≤ℤ p
min_left p q = omega (arith, ints, clamps)

min_right : (p q : ℤ) → int_min p q ≤ℤ q
min_right p q = omega (arith, ints, clamps)

max_left : (p q : ℤ) → p ≤ℤ int_max p q
max_left p q = omega (arith, ints, clamps)

max_right : (p q : ℤ) → q ≤ℤ int_max p q
max_right p q = omega (arith, ints, clamps)

pub corners_hull : (ok : ℤ → Type 0) (f : ℤ → ℤ → ℤ) → IsSteady ok f → (r s : Range) (z w : ℤ) → ok s.low → ok s.high → ok w → InRange z r → InRange w s → InRange (f z w) (corners f r s)
corners_hull ok f steady r s z w p q o h k =
    let across : Between (f z w) (f r.low w) (f r.high w) = steady.left r.low z r.high w o h.from h.to in
    let at_low : Between (f r.low w) (f r.low s.low) (f r.low s.high) = steady.right r.low s.low w s.high p q k.from k.to in
    let at_high : Between (f r.high w) (f r.high s.low) (f r.high s.high) = steady.right r.high s.low w s.high p q k.from k.to in
    four (f z w) (f r.low w) (f r.high w) (f r.low s.low) (f r.low s.high) (f r.high s.low) (f r.high s.high) across at_low at_high
  where
    four : (x a b p q m n : ℤ) → Between x a b → Between a p q → Between b m n → InRange x (record { low = int_min (int_min p q) (int_min m n); high = int_max (int_max p q) (int_max m n) })
    four x a b p q m n h k l = record { from = omega (arith, ints, clamps); to = omega (arith, ints, clamps) }

pub corners_reached : (ok : ℤ → Type 0) (f : ℤ → ℤ → ℤ) (r s : Range) → ok s.low → ok s.high → r.low ≤ℤ r.high → s.low ≤ℤ s.high → EndsReached ok f r s (Some (corners f r s))
corners_reached ok f r s o u p q =
    let at : (z w : ℤ) → InRange z r → InRange w s → ok w → IsResult ok f r s (f z w) = λ (z w : ℤ) (h : InRange z r) (k : InRange w s) (m : ok w). record { left = z; right = w; in_left = h; in_right = k; allowed = m; is = refl } in
    let rl : InRange r.low r = record { from = omega (arith, ints); to = p } in
    let rh : InRange r.high r = record { from = p; to = omega (arith, ints) } in
    let sl : InRange s.low s = record { from = omega (arith, ints); to = q } in
    let sh : InRange s.high s = record { from = q; to = omega (arith, ints) } in
    let P : ℤ → Type 0 = λ (x : ℤ). IsResult ok f r s x in (
      picked_min _ _ P (picked_min _ _ P (at _ _ rl sl o) (at _ _ rl sh u)) (picked_min _ _ P (at _ _ rh sl o) (at _ _ rh sh u)),
      picked_max _ _ P (picked_max _ _ P (at _ _ rl sl o) (at _ _ rl sh u)) (picked_max _ _ P (at _ _ rh sl o) (at _ _ rh sh u)),
    )

-- ---- products
-- a ≤ z gives a * w ≤ z * w for w from 0, and the other way round below 0
mul_up : (a z : ℤ) (n : ℕ) → a ≤ℤ z → (a *ℤ pos n) ≤ℤ (z *ℤ pos n)
mul_up (pos a) (pos z) n h = let k : a * n ≤ z * n = mul-le a n z n (omega (arith, ints)) (omega arith) in omega (arith, ints)
mul_up (pos a) (negsuc z) n h = absurd (omega (arith, ints))
mul_up (negsuc a) (pos z) n h = rw (negsuc-*ℤ-pos a n) (omega (arith, ints))
mul_up (negsuc a) (negsuc z) n h = let k : suc z * n ≤ suc a * n = mul-le (suc z) n (suc a) n (omega (arith, ints)) (omega arith) in rw (negsuc-*ℤ-pos a n, negsuc-*ℤ-pos z n) (omega (arith, ints))

mul_down : (a z : ℤ) (n : ℕ) → a ≤ℤ z → (z *ℤ negsuc n) ≤ℤ (a *ℤ negsuc n)
mul_down a z n h = let k : (a *ℤ pos (suc n)) ≤ℤ (z *ℤ pos (suc n)) = mul_up a z (suc n) h in rw (negated a n, negated z n) (omega (arith, ints))
  where
    negated : (a : ℤ) (n : ℕ) → a *ℤ negsuc n ≡ neg_ℤ (a *ℤ pos (suc n))
    negated (pos a) n = rw (pos-*ℤ-negsuc a n, pos-*ℤ-pos a (suc n)) refl
    negated (negsuc a) n = rw (negsuc-*ℤ-negsuc a n, negsuc-*ℤ-pos a (suc n)) (sym (neg_ℤ-neg_ℤ (pos (suc a * suc n))))

mul_left : (a z b w : ℤ) → a ≤ℤ z → z ≤ℤ b → Between (z *ℤ w) (a *ℤ w) (b *ℤ w)
mul_left a z b (pos n) h k = let p : (a *ℤ pos n) ≤ℤ (z *ℤ pos n) = mul_up a z n h in let q : (z *ℤ pos n) ≤ℤ (b *ℤ pos n) = mul_up z b n k in between_up _ _ _ p q
mul_left a z b (negsuc n) h k = between_down _ _ _ (mul_down a z n h) (mul_down z b n k)

pub product_steady : IsSteady Always (λ z w. z *ℤ w)
product_steady = record {
  left = λ a z b w _ h k. mul_left a z b w h k;
  right = λ z c w d _ _ h k. subst (λ (x : ℤ). Between x (z *ℤ c) (z *ℤ d)) (*ℤ_comm w z) (subst (λ (x : ℤ). Between (w *ℤ z) x (z *ℤ d)) (*ℤ_comm c z) (subst (λ (x : ℤ). Between (w *ℤ z) (c *ℤ z) x) (*ℤ_comm d z) (mul_left c w d z h k)));
}

pub product_hull : IsHull Always (λ z w. z *ℤ w) product_range
product_hull = record {
  holds = λ r s z w h k _. corners_hull Always (λ (z w : ℤ). z *ℤ w) product_steady r s z w tt tt tt h k;
  reached = λ r s p q. corners_reached Always (λ (z w : ℤ). z *ℤ w) r s tt tt p q;
}
