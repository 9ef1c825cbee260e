-- The laws of known bits.
use Rattle.std.proofs.Common.{◌≡◌, ℕ, zero, suc, ◌+◌, ◌%◌, ◌<◌, ◌≤◌, ◌⊎◌, inl, inr, min, Bool, true, false, ◌&&◌, refl, sym, ◌∙◌, ap, subst, arith, bit_and, bit_xor}
use Rattle.std.specs.Int.{bit_at}
use Rattle.std.proofs.lemmas.Nat.Bits.{bit_at_and, bit_at_xor, bit_at-lt, same_from_bits, same_from_bits_below}
use Rattle.std.proofs.lemmas.Nat.{xor_lt, and_le_l, and_comm}
use Rattle.std.proofs.lemmas.Bool.{eqb-true, eq-eqb, cases_lt}
use Rattle.fix_engine.specs.Solving.{sum_below}
use Rattle.fix_engine.proofs.Work.{sum_below_bound}
use Rattle.value_domain.specs.declared.bits.Bits.{Bits}
use Rattle.value_domain.specs.Bitmasks.{IsBits, conflict, bits_joined, bits_below, AreBelow, FitsBits, bits_rank}
use Rattle.lattice_parts.specs.Parts.{PartLaws}
use Rattle.value_domain.specs.BitsLemmas.{bit_agrees, bit_below, join_above_left, join_least}

two : (a b : Bool) → (a && b) ≡ true → (a ≡ true) × (b ≡ true)
two true true h = (refl, refl)
two true false h = cc
two false b h = cc

pub below_is : (a b : Bits) → bits_below a b ≡ true → AreBelow a b
below_is a b h = let e = two _ _ h in record { mask = eqb-true _ _ e.0; value = eqb-true _ _ e.1 }

pub is_below : (a b : Bits) → AreBelow a b → bits_below a b ≡ true
is_below a b h = rw (eq-eqb _ _ h.mask, eq-eqb _ _ h.value) refl

-- two sums are of the same numbers, or one is less
even_or_less : (f g : ℕ → ℕ) (n : ℕ) → ((i : ℕ) → i < n → g i ≤ f i) → ((i : ℕ) → i < n → f i ≡ g i) ⊎ (sum_below g n < sum_below f n)
even_or_less f g zero le = inl (λ i h. absurd (omega arith))
even_or_less f g (suc n) le = by (even_or_less f g n (λ i h. le i (omega arith))) (cases_lt (g n) (f n)) (le n (omega arith))
  where
    at : (i : ℕ) → i < suc n → ((j : ℕ) → j < n → f j ≡ g j) → f n ≡ g n → (i < n) ⊎ (n ≤ i) → f i ≡ g i
    at i h each e (inl less) = each i less
    at i h each e (inr up) = let same : n ≡ i = omega arith in subst (λ (k : ℕ). f k ≡ g k) same e

    by : ((i : ℕ) → i < n → f i ≡ g i) ⊎ (sum_below g n < sum_below f n) → (g n < f n) ⊎ (f n ≤ g n) → g n ≤ f n → ((i : ℕ) → i < suc n → f i ≡ g i) ⊎ (sum_below g n + g n < sum_below f n + f n)
    by (inl each) (inl less) l = inr (let total : sum_below g n ≡ sum_below f n = same_sum n each in omega (arith, total))
      where
        same_sum : (m : ℕ) → ((i : ℕ) → i < m → f i ≡ g i) → sum_below g m ≡ sum_below f m
        same_sum zero e = refl
        same_sum (suc m) e = let t = same_sum m (λ i h. e i (omega arith)) in let u = e m (omega arith) in omega (arith, t, u)
    by (inl each) (inr up) l = inl (λ i h. at i h each (omega arith) (cases_lt i n))
    by (inr less) _ l = inr (omega arith)

bits_same : (a b : Bits) → a.mask ≡ b.mask → a.value ≡ b.value → a ≡ b
bits_same a b e f = λ i. record { mask = e i; value = f i }

bits_equal : (a b : Bits) → FitsBits a → AreBelow a b → a.mask ≡ b.mask → a ≡ b
bits_equal a b f h e = bits_same a b e (sym f.within ∙ (ap (bit_and a.value) e ∙ h.value))

min_le : (x y z : ℕ) → min x y ≡ z → z ≤ x
min_le x y z e = omega arith

bits_falls : (a b : Bits) → FitsBits a → FitsBits b → AreBelow a b → (a ≡ b) ⊎ (bits_rank b < bits_rank a)
bits_falls a b f g h = by (even_or_less (bit_at a.mask) (bit_at b.mask) 64 (λ i _. min_le (bit_at a.mask i) (bit_at b.mask i) (bit_at b.mask i) (bit_below a b i h).0))
  where
    by : ((i : ℕ) → i < 64 → bit_at a.mask i ≡ bit_at b.mask i) ⊎ (sum_below (bit_at b.mask) 64 < sum_below (bit_at a.mask) 64) → (a ≡ b) ⊎ (bits_rank b < bits_rank a)
    by (inl each) = inl (bits_equal a b f h (same_from_bits_below 64 a.mask b.mask f.short g.short each))
    by (inr less) = inr less

trans_row : (p q r u v w : ℕ) → p < 2 → q < 2 → r < 2 → min p q ≡ q → min u q ≡ v → min q r ≡ r → min v r ≡ w → u < 2 → (min p r ≡ r) × (min u r ≡ w)
trans_row p q r u v w a b c d e f g h = (omega arith, omega arith)

below_trans : (a b c : Bits) → AreBelow a b → AreBelow b c → AreBelow a c
below_trans a b c h k =
    let row = λ (i : ℕ). trans_row (bit_at a.mask i) (bit_at b.mask i) (bit_at c.mask i) (bit_at a.value i) (bit_at b.value i) (bit_at c.value i) (bit_at-lt _ i) (bit_at-lt _ i) (bit_at-lt _ i) (bit_below a b i h).0 (bit_below a b i h).1 (bit_below b c i k).0 (bit_below b c i k).1 (bit_at-lt _ i) in
    record { mask = same_from_bits _ _ (λ (i : ℕ). simp bit_at_and (row i).0); value = same_from_bits _ _ (λ (i : ℕ). simp bit_at_and (row i).1) }

self_row : (p u : ℕ) → p < 2 → min u p ≡ u → (min p p ≡ p) × (min u p ≡ u)
self_row p u a b = (omega arith, b)

below_self : (a : Bits) → IsBits a → AreBelow a a
below_self a m = record { mask = same_from_bits _ _ (λ (i : ℕ). simp bit_at_and (self_row (bit_at a.mask i) (bit_at a.value i) (bit_at-lt _ i) (bit_agrees a.value i a m)).0); value = m }

fit_row : (p q u v : ℕ) → p < 2 → q < 2 → u < 2 → v < 2 → min u p ≡ u → min v q ≡ v → min (min u v) ((min p q + min ((u + v) % 2) (min p q)) % 2) ≡ min u v
fit_row p q u v a b c d e f = omega arith

swap_row : (p q u v : ℕ) → (min q p + min ((v + u) % 2) (min q p)) % 2 ≡ (min p q + min ((u + v) % 2) (min p q)) % 2
swap_row p q u v = omega arith

joined_swap : (a b : Bits) → bits_joined b a ≡ bits_joined a b
joined_swap a b = bits_same _ _ (same_from_bits _ _ (λ (i : ℕ). simp (bit_at_and, bit_at_xor) (swap_row (bit_at a.mask i) (bit_at b.mask i) (bit_at a.value i) (bit_at b.value i)))) (and_comm b.value a.value)

joined_fits : (a b : Bits) → FitsBits a → FitsBits b → FitsBits (bits_joined a b)
joined_fits a b f g = record {
  within = same_from_bits _ _ (λ (i : ℕ). simp (bit_at_and, bit_at_xor) (fit_row (bit_at a.mask i) (bit_at b.mask i) (bit_at a.value i) (bit_at b.value i) (bit_at-lt _ i) (bit_at-lt _ i) (bit_at-lt _ i) (bit_at-lt _ i) (bit_agrees a.value i a f.within) (bit_agrees b.value i b g.within)));
  short =
      let p : bit_and a.mask b.mask ≤ a.mask = and_le_l a.mask b.mask in
      let q : conflict a b ≤ bit_and a.mask b.mask = subst (λ (x : ℕ). x ≤ bit_and a.mask b.mask) (and_comm _ _) (and_le_l (bit_and a.mask b.mask) (bit_xor a.value b.value)) in
      let s = f.short in
      xor_lt 64 (bit_and a.mask b.mask) (conflict a b) (omega arith) (omega arith);
}

pub bits_laws : PartLaws FitsBits 64 bits_rank bits_below bits_joined
bits_laws = record {
  reflexive = λ a f. is_below a a (below_self a f.within);
  antisymmetric = λ a b f g h k. bits_equal a b f (below_is a b h) (sym (below_is b a k).mask ∙ (and_comm b.mask a.mask ∙ (below_is a b h).mask));
  transitive = λ a b c f g e h k. is_below a c (below_trans a b c (below_is a b h) (below_is b c k));
  join_fits = joined_fits;
  above_left = λ a b f g. is_below _ _ (join_above_left a b f.within g.within);
  above_right = λ a b f g. subst (λ (j : Bits). bits_below b j ≡ true) (joined_swap a b) (is_below _ _ (join_above_left b a g.within f.within));
  least_above = λ a b c f g e h k. is_below _ _ (join_least a b c (below_is a c h) (below_is b c k));
  rank_bounded = λ a f. sum_below_bound (λ (i : ℕ). bit_at a.mask i) 1 64 (λ i _. let h = bit_at-lt a.mask i in omega arith);
  rank_falls = λ a b f g h. bits_falls a b f g (below_is a b h);
}
