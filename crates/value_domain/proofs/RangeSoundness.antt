-- The intervals of `% & | ^ << >>`, of comparisons and of conversions hold the results.
use Rattle.std.proofs.Common.{cond, ◌≡◌, ℕ, zero, suc, ◌+◌, ◌/◌, ◌%◌, ◌^◌, ◌-◌, ◌<◌, ◌≤◌, ℤ, pos, negsuc, neg_ℤ, ◌-ℤ◌, ◌≤ℤ◌, ◌<ℤ◌, ◌⊎◌, inl, inr, Bool, true, false, ◌&&◌, ◌||◌, not, refl, sym, ◌∙◌, ap, subst, int_le, int_lt, int_rem, arith, unsigned_abs, bit_and, bit_or, bit_xor, Option, Some, None}
use Rattle.std.specs.Int.{int_min, int_max, int_shr}
use Rattle.std.proofs.lemmas.Int.{ints, clamps}
use Rattle.std.proofs.lemmas.Nat.{mod_below, pow_pos, and_le_l, and_le_r, or_lt, xor_lt}
use Rattle.std.proofs.Math.Nat.{mod-eq_of_lt, div-le_self, mod-le, pow-le-pow_right}
use Rattle.std.proofs.lemmas.Bool.{cases_lt}
use Rattle.gimple_ir.specs.declared.scalar.Scalar.{Scalar}
use Rattle.gimple_ir.specs.declared.scalar.Cmp.{Cmp}
use Rattle.gimple_ir.specs.declared.scalar.Cmp.TheVariants.{Eq, Ne, Lt, Le, Gt, Ge}
use Rattle.gimple_core.specs.Operators.{is_signed, least_of, greatest_of, wrapped, of_bits, low_bits, bits_of, cmp_of}
use Rattle.value_domain.specs.declared.range.Range.{Range}
use Rattle.value_domain.specs.Ranges.{InRange, InEach}
use Rattle.value_domain.specs.RangeOperators.{type_range, highest, remainder_within, reach_of, remainder_range, and_range, ones_from, ones_reaching, or_range, shr_range, surely, opposite, cmp_range, convert_range}
use Rattle.value_domain.specs.BitOperators.{truth}
use Rattle.value_domain.specs.FitLemmas.{le_tells, unless_cases}
use Rattle.value_domain.proofs.ScalarLemmas.{two, pos_below, of_bits_cases, of_bits_in, low_below, wrapped_in, wrapped_same, type_word, type_zero, signed_ends, unsigned_ends}
use Rattle.value_domain.proofs.RoundingLemmas.{by_order}

-- a choice of intervals by an order
pub by_range : (a b : ℤ) (x y : Range) (P : Range → Type 0) → (a ≤ℤ b → P x) → (b <ℤ a → P y) → P (cond (int_le a b) x y)
by_range a b x y P h k = by (int_le a b) refl
  where
    by : (v : Bool) → int_le a b ≡ v → P (cond v x y)
    by true e = h ((le_tells a b).is_so e)
    by false e = k (grind (arith, ints))

-- ---- `%`
-- a remainder is smaller than the divisor, and lies between 0 and the left side
record IsRemainder (z m x : ℤ) : Type 0 where
  above : (pos 1 -ℤ m) ≤ℤ x
  below : x ≤ℤ (m -ℤ pos 1)
  up : pos 0 ≤ℤ z → (pos 0 ≤ℤ x) × (x ≤ℤ z)
  down : z ≤ℤ pos 0 → (x ≤ℤ pos 0) × (z ≤ℤ x)

negated : (n : ℕ) → neg_ℤ (pos n) ≤ℤ pos 0
negated n = omega (arith, ints)

remainder_is : (z w : ℤ) → 0 < unsigned_abs w → IsRemainder z (pos (unsigned_abs w)) (int_rem z w)
remainder_is (pos n) w h =
    let e : n % unsigned_abs w < unsigned_abs w = mod_below n (unsigned_abs w) h in
    let f : n % unsigned_abs w ≤ n = mod-le n (unsigned_abs w) in
    record { above = omega (arith, ints); below = omega (arith, ints); up = λ _. (omega (arith, ints), omega (arith, ints)); down = λ k. (omega (arith, ints), omega (arith, ints)) }
remainder_is (negsuc n) w h =
    let e : suc n % unsigned_abs w < unsigned_abs w = mod_below (suc n) (unsigned_abs w) h in
    let f : suc n % unsigned_abs w ≤ suc n = mod-le (suc n) (unsigned_abs w) in
    record { above = omega (arith, ints); below = omega (arith, ints); up = λ k. absurd (omega (arith, ints)); down = λ _. (omega (arith, ints), omega (arith, ints)) }

pub size_within : (s : Range) (w : ℤ) → InRange w s → pos (unsigned_abs w) ≤ℤ reach_of s
size_within s (pos n) h = up s.high (omega (arith, ints, h.to))
  where
    up : (d : ℤ) → pos n ≤ℤ d → pos n ≤ℤ int_max (pos (unsigned_abs s.low)) (pos (unsigned_abs d))
    up (pos d) k = omega (arith, ints, clamps)
    up (negsuc d) k = absurd (omega (arith, ints))
size_within s (negsuc n) h = down s.low (omega (arith, ints, h.from))
  where
    down : (c : ℤ) → c ≤ℤ negsuc n → pos (suc n) ≤ℤ int_max (pos (unsigned_abs c)) (pos (unsigned_abs s.high))
    down (pos c) k = absurd (omega (arith, ints))
    down (negsuc c) k = omega (arith, ints, clamps)

within_holds : (m : ℤ) (r : Range) (z x k : ℤ) → IsRemainder z k x → k ≤ℤ m → pos 1 ≤ℤ k → InRange z r → InRange x (remainder_within m r)
within_holds m r z x k h l o i = record {
  from = by_order (pos 0) r.low (pos 0) (int_max r.low (pos 1 -ℤ m)) (λ (y : ℤ). y ≤ℤ x)
      (λ a. (h.up (omega (arith, ints, i.from))).0)
      (λ a. sides (λ b. let u = h.up b in omega (arith, ints, clamps, u.0, h.above)) (λ b. let d = h.down b in omega (arith, ints, clamps, d.1, h.above, i.from)));
  to = by_order r.high (pos 0) (pos 0) (int_min r.high (m -ℤ pos 1)) (λ (y : ℤ). x ≤ℤ y)
      (λ a. (h.down (omega (arith, ints, i.to))).0)
      (λ a. sides2 (λ b. let u = h.up b in omega (arith, ints, clamps, u.1, h.below, i.to)) (λ b. let d = h.down b in omega (arith, ints, clamps, d.0, h.below)));
}
  where
    sides : (pos 0 ≤ℤ z → int_max r.low (pos 1 -ℤ m) ≤ℤ x) → (z ≤ℤ pos 0 → int_max r.low (pos 1 -ℤ m) ≤ℤ x) → int_max r.low (pos 1 -ℤ m) ≤ℤ x
    sides p q = by_order (pos 0) z (pos 0) (pos 0) (λ (_ : ℤ). int_max r.low (pos 1 -ℤ m) ≤ℤ x) p (λ a. q (omega (arith, ints)))

    sides2 : (pos 0 ≤ℤ z → x ≤ℤ int_min r.high (m -ℤ pos 1)) → (z ≤ℤ pos 0 → x ≤ℤ int_min r.high (m -ℤ pos 1)) → x ≤ℤ int_min r.high (m -ℤ pos 1)
    sides2 p q = by_order (pos 0) z (pos 0) (pos 0) (λ (_ : ℤ). x ≤ℤ int_min r.high (m -ℤ pos 1)) p (λ a. q (omega (arith, ints)))

pub by_reach : (s : Range) (x y : Option Range) (P : Option Range → Type 0) → (reach_of s ≤ℤ pos 0 → P x) → (pos 0 <ℤ reach_of s → P y) → P (cond (int_le (reach_of s) (pos 0)) x y)
by_reach s x y P h k = by (int_le (reach_of s) (pos 0)) refl
  where
    by : (v : Bool) → int_le (reach_of s) (pos 0) ≡ v → P (cond v x y)
    by true e = h ((le_tells (reach_of s) (pos 0)).is_so e)
    by false e = k (less (reach_of s) e)
      where
        less : (m : ℤ) → int_le m (pos 0) ≡ false → pos 0 <ℤ m
        less m e = grind (arith, ints)

pub remainder_holds : (r s : Range) (z w : ℤ) → InRange z r → InRange w s → 0 < unsigned_abs w → InEach (int_rem z w) (remainder_range r s)
remainder_holds r s z w h k p =
    let size : pos (unsigned_abs w) ≤ℤ reach_of s = size_within s w k in
    by_reach s None (Some (remainder_within (reach_of s) r)) (InEach (int_rem z w))
    (λ l. absurd (none (reach_of s) (unsigned_abs w) size l p))
    (λ l. within_holds (reach_of s) r z (int_rem z w) (pos (unsigned_abs w)) (remainder_is z w p) size (omega (arith, ints)) h)
  where
    none : (m : ℤ) (n : ℕ) → pos n ≤ℤ m → m ≤ℤ pos 0 → 0 < n → ⊥
    none m n a b c = omega (arith, ints)

-- ---- `& | ^`
-- a number from 0 is its own low bits
low_pos : (scalar : Scalar) (n : ℕ) → InRange (pos n) (type_range scalar) → low_bits scalar (pos n) ≡ n
low_pos scalar n h = mod-eq_of_lt (pos_below scalar n h).0

small_bits : (scalar : Scalar) (n k : ℕ) → InRange (pos k) (type_range scalar) → n ≤ k → of_bits scalar n ≡ pos n
small_bits scalar n k h l = of_bits_cases scalar n (λ (z : ℤ). z ≡ pos n) (λ _. refl) (λ s m. absurd (let p = (pos_below scalar k h).1 s in omega arith))

and_left : (scalar : Scalar) (n m b : ℕ) → InRange (pos n) (type_range scalar) → (of_bits scalar (bit_and (low_bits scalar (pos n)) m) ≡ pos (bit_and n m)) × (bit_and n m ≤ n)
and_left scalar n m b h =
    let e : low_bits scalar (pos n) ≡ n = low_pos scalar n h in
    let l : bit_and n m ≤ n = and_le_l n m in
    (ap (λ (x : ℕ). of_bits scalar (bit_and x m)) e ∙ small_bits scalar (bit_and n m) n h l, l)

and_right : (scalar : Scalar) (n m : ℕ) → InRange (pos m) (type_range scalar) → (of_bits scalar (bit_and n (low_bits scalar (pos m))) ≡ pos (bit_and n m)) × (bit_and n m ≤ m)
and_right scalar n m h =
    let e : low_bits scalar (pos m) ≡ m = low_pos scalar m h in
    let l : bit_and n m ≤ m = and_le_r n m in
    (ap (λ (x : ℕ). of_bits scalar (bit_and n x)) e ∙ small_bits scalar (bit_and n m) m h l, l)

abbrev and_number : Scalar → ℤ → ℤ → ℤ
and_number scalar z w = of_bits scalar (bit_and (low_bits scalar z) (low_bits scalar w))

-- the result lies between 0 and each side that does
and_below_left : (scalar : Scalar) (z w : ℤ) → InRange z (type_range scalar) → pos 0 ≤ℤ z → (pos 0 ≤ℤ and_number scalar z w) × (and_number scalar z w ≤ℤ z)
and_below_left scalar (negsuc n) w h k = absurd (omega (arith, ints))
and_below_left scalar (pos n) w h k = let r = and_left scalar n (low_bits scalar w) n h in (subst (λ (x : ℤ). pos 0 ≤ℤ x) (sym r.0) (omega (arith, ints)), subst (λ (x : ℤ). x ≤ℤ pos n) (sym r.0) (omega (arith, ints, r.1)))

and_below_right : (scalar : Scalar) (z w : ℤ) → InRange w (type_range scalar) → pos 0 ≤ℤ w → (pos 0 ≤ℤ and_number scalar z w) × (and_number scalar z w ≤ℤ w)
and_below_right scalar z (negsuc n) h k = absurd (omega (arith, ints))
and_below_right scalar z (pos n) h k = let r = and_right scalar (low_bits scalar z) n h in (subst (λ (x : ℤ). pos 0 ≤ℤ x) (sym r.0) (omega (arith, ints)), subst (λ (x : ℤ). x ≤ℤ pos n) (sym r.0) (omega (arith, ints, r.1)))

and_small : (m a b : ℕ) → a < m → bit_and a b < m
and_small m a b h = let k : bit_and a b ≤ a = and_le_l a b in omega arith

pub and_holds : (scalar : Scalar) (r s : Range) (z w : ℤ) → InRange z (type_range scalar) → InRange w (type_range scalar) → InRange z r → InRange w s → InRange (of_bits scalar (bit_and (low_bits scalar z) (low_bits scalar w))) (and_range (type_range scalar) r s)
and_holds scalar r s z w p q h k =
    let x = and_number scalar z w in
    by_range (pos 0) r.low _ _ (InRange x)
    (λ a. let u = and_below_left scalar z w p (omega (arith, ints, h.from)) in
    by_range (pos 0) s.low _ _ (InRange x)
    (λ b. let v = and_below_right scalar z w q (omega (arith, ints, k.from)) in record { from = u.0; to = omega (arith, ints, clamps, u.1, v.1, h.to, k.to) })
    (λ b. record { from = u.0; to = omega (arith, ints, u.1, h.to) }))
    (λ a. by_range (pos 0) s.low _ _ (InRange x)
    (λ b. let v = and_below_right scalar z w q (omega (arith, ints, k.from)) in record { from = v.0; to = omega (arith, ints, v.1, k.to) })
    (λ b. of_bits_in scalar _ (and_small _ _ _ (low_below scalar z))))

-- the numbers 2 ^ k - 1
pub record IsOnes (n m : ℤ) : Type 0 where
  pub power : ℕ
  pub is : m ≡ pos (2 ^ power - 1)
  pub reaches : n ≤ℤ m

ones_are : (more k : ℕ) (n : ℤ) → n ≤ℤ pos (2 ^ (k + more) - 1) → IsOnes n (ones_from more k n)
unfolding ones_from
ones_are zero k n h = record { power = k; is = refl; reaches = let e : k + 0 ≡ k = omega arith in subst (λ (j : ℕ). n ≤ℤ pos (2 ^ j - 1)) e h }
ones_are (suc more) k n h = by_order n (pos (2 ^ k - 1)) _ _ (λ (m : ℤ). IsOnes n m) (λ l. record { power = k; is = refl; reaches = l })
    (λ _. let e : k + suc more ≡ suc k + more = omega arith in ones_are more (suc k) n (subst (λ (j : ℕ). n ≤ℤ pos (2 ^ j - 1)) e h))

power_le : (k i : ℕ) → k ≤ i → 2 ^ k ≤ 2 ^ i
power_le k i h = pow-le-pow_right {n = 2} (omega arith) h

ones_least_from : (more k i : ℕ) (n : ℤ) → k ≤ i → n ≤ℤ pos (2 ^ i - 1) → ones_from more k n ≤ℤ pos (2 ^ i - 1)
unfolding ones_from
ones_least_from zero k i n h l = let p : 2 ^ k ≤ 2 ^ i = power_le k i h in omega (arith, ints)
ones_least_from (suc more) k i n h l = by_order n (pos (2 ^ k - 1)) _ _ (λ (m : ℤ). m ≤ℤ pos (2 ^ i - 1)) (λ _. let p : 2 ^ k ≤ 2 ^ i = power_le k i h in omega (arith, ints))
    (λ o. ones_least_from more (suc k) i n (beyond o) l)
  where
    beyond : pos (2 ^ k - 1) <ℤ n → suc k ≤ i
    beyond o = step (cases_lt k i)
      where
        step : (k < i) ⊎ (i ≤ k) → suc k ≤ i
        step (inl a) = omega arith
        step (inr a) = let e : k ≡ i = omega arith in let f : pos (2 ^ i - 1) <ℤ n = subst (λ (j : ℕ). pos (2 ^ j - 1) <ℤ n) e o in absurd (omega (arith, ints))

-- one step of the search
pub ones_step : (k : ℕ) (n : ℤ) → k < 64 → pos (2 ^ k - 1) <ℤ n → ones_from (64 - k) k n ≡ ones_from (64 - (k + 1)) (k + 1) n
unfolding ones_from
ones_step k n h l =
    let e : 64 - k ≡ suc (64 - (k + 1)) = omega arith in
    let f : suc k ≡ k + 1 = omega arith in
    ap (λ (m : ℕ). ones_from m k n) e ∙ (by_order n (pos (2 ^ k - 1)) _ _ (λ (m : ℤ). m ≡ ones_from (64 - (k + 1)) (suc k) n) (λ g. absurd (omega (arith, ints))) (λ _. refl) ∙ ap (λ (j : ℕ). ones_from (64 - (k + 1)) j n) f)

pub ones_end : (k : ℕ) (n : ℤ) → k ≡ 64 → ones_from (64 - k) k n ≡ pos (2 ^ 64 - 1)
unfolding ones_from
ones_end k n e = ap (λ (j : ℕ). ones_from (64 - j) j n) e

pub ones_found : (k : ℕ) (n : ℤ) → k < 64 → n ≤ℤ pos (2 ^ k - 1) → ones_from (64 - k) k n ≡ pos (2 ^ k - 1)
unfolding ones_from
ones_found k n h l =
    let e : 64 - k ≡ suc (64 - (k + 1)) = omega arith in
    ap (λ (m : ℕ). ones_from m k n) e ∙ by_order n (pos (2 ^ k - 1)) _ _ (λ (m : ℤ). m ≡ pos (2 ^ k - 1)) (λ _. refl) (λ g. absurd (omega (arith, ints)))

pub ones_reach : (n : ℤ) → n ≤ℤ highest → IsOnes n (ones_reaching n)
unfolding ones_reaching
ones_reach n h = ones_are 64 0 n h

pub ones_least : (n : ℤ) (i : ℕ) → n ≤ℤ pos (2 ^ i - 1) → ones_reaching n ≤ℤ pos (2 ^ i - 1)
unfolding ones_reaching
ones_least n i h = ones_least_from 64 0 i n (omega arith) h

-- the greatest number of a scalar is one of them
pub greatest_ones : (scalar : Scalar) → (i : ℕ) × (greatest_of scalar ≡ pos (2 ^ i - 1))
greatest_ones scalar = by (is_signed scalar) refl
  where
    by : (b : Bool) → is_signed scalar ≡ b → (i : ℕ) × (greatest_of scalar ≡ pos (2 ^ i - 1))
    by true e = (bits_of scalar - 1, (signed_ends scalar e).1)
    by false e = (bits_of scalar, (unsigned_ends scalar e).1)

pub ones_inside : (scalar : Scalar) (n : ℤ) → n ≤ℤ greatest_of scalar → ones_reaching n ≤ℤ greatest_of scalar
ones_inside scalar n h = let g = greatest_ones scalar in subst (λ (m : ℤ). ones_reaching n ≤ℤ m) (sym g.1) (ones_least n g.0 (subst (λ (m : ℤ). n ≤ℤ m) g.1 h))

-- a number of bits below 2 ^ k, from numbers of a scalar below it
small_result : (scalar : Scalar) (n k : ℕ) → n < 2 ^ k → pos (2 ^ k - 1) ≤ℤ greatest_of scalar → (of_bits scalar n ≡ pos n) × (pos n ≤ℤ pos (2 ^ k - 1))
small_result scalar n k h l =
    let p : 0 < 2 ^ k = pow_pos k in
    let t = type_zero scalar in
    let i : InRange (pos (2 ^ k - 1)) (type_range scalar) = record { from = omega (arith, ints, t.0); to = l } in
    (small_bits scalar n (2 ^ k - 1) i (omega arith), omega (arith, ints))

abbrev Mix : (ℕ → ℕ → ℕ) → Type 0
Mix f = (k a b : ℕ) → a < 2 ^ k → b < 2 ^ k → f a b < 2 ^ k

mixed : (f : ℕ → ℕ → ℕ) → Mix f → (scalar : Scalar) (z w : ℤ) (k : ℕ) → InRange z (type_range scalar) → InRange w (type_range scalar) → pos 0 ≤ℤ z → pos 0 ≤ℤ w → z ≤ℤ pos (2 ^ k - 1) → w ≤ℤ pos (2 ^ k - 1) → pos (2 ^ k - 1) ≤ℤ greatest_of scalar → (pos 0 ≤ℤ of_bits scalar (f (low_bits scalar z) (low_bits scalar w))) × (of_bits scalar (f (low_bits scalar z) (low_bits scalar w)) ≤ℤ pos (2 ^ k - 1))
mixed f mix scalar (negsuc n) w k h i a b c d e = absurd (omega (arith, ints))
mixed f mix scalar (pos n) (negsuc m) k h i a b c d e = absurd (omega (arith, ints))
mixed f mix scalar (pos n) (pos m) k h i a b c d e =
    let p : 0 < 2 ^ k = pow_pos k in
    let x : f n m < 2 ^ k = mix k n m (omega (arith, ints)) (omega (arith, ints)) in
    let r = small_result scalar (f n m) k x e in
    let same : of_bits scalar (f (low_bits scalar (pos n)) (low_bits scalar (pos m))) ≡ pos (f n m) = ap (λ (y : ℕ). of_bits scalar (f y (low_bits scalar (pos m)))) (low_pos scalar n h) ∙ (ap (λ (y : ℕ). of_bits scalar (f n y)) (low_pos scalar m i) ∙ r.0) in
    (subst (λ (y : ℤ). pos 0 ≤ℤ y) (sym same) (omega (arith, ints)), subst (λ (y : ℤ). y ≤ℤ pos (2 ^ k - 1)) (sym same) r.1)

pub by_both : (a b : Bool) (x y : Range) (P : Range → Type 0) → (a ≡ true → b ≡ true → P x) → ((a ≡ false) ⊎ (b ≡ false) → P y) → P (cond (a && b) x y)
by_both true true x y P h k = h refl refl
by_both true false x y P h k = k (inr refl)
by_both false b x y P h k = k (inl refl)

mix_holds : (f : ℕ → ℕ → ℕ) → Mix f → (scalar : Scalar) (r s : Range) (z w : ℤ) → r.high ≤ℤ greatest_of scalar → s.high ≤ℤ greatest_of scalar → InRange z (type_range scalar) → InRange w (type_range scalar) → InRange z r → InRange w s → InRange (of_bits scalar (f (low_bits scalar z) (low_bits scalar w))) (or_range (type_range scalar) r s)
mix_holds f mix scalar r s z w a b p q h k =
    let x = of_bits scalar (f (low_bits scalar z) (low_bits scalar w)) in
    let top : int_max r.high s.high ≤ℤ greatest_of scalar = omega (arith, ints, clamps) in
    let word = (type_word scalar).1 in
    by_both (int_le (pos 0) r.low) (int_le (pos 0) s.low) _ _ (InRange x)
    (λ e f2.
    let o = ones_reach (int_max r.high s.high) (omega (arith, ints, top, word)) in
    let u : pos 0 ≤ℤ r.low = (le_tells (pos 0) r.low).is_so e in
    let v : pos 0 ≤ℤ s.low = (le_tells (pos 0) s.low).is_so f2 in
    let g : int_max r.high s.high ≤ℤ pos (2 ^ o.power - 1) = subst (λ (m : ℤ). int_max r.high s.high ≤ℤ m) o.is o.reaches in
    let i : pos (2 ^ o.power - 1) ≤ℤ greatest_of scalar = subst (λ (m : ℤ). m ≤ℤ greatest_of scalar) o.is (ones_inside scalar (int_max r.high s.high) top) in
    let m = mixed f mix scalar z w o.power p q (omega (arith, ints, h.from)) (omega (arith, ints, k.from)) (omega (arith, ints, clamps, h.to)) (omega (arith, ints, clamps, k.to)) i in
    record { from = m.0; to = subst (λ (y : ℤ). x ≤ℤ y) (sym o.is) m.1 })
    (λ _. of_bits_in scalar _ (mix (bits_of scalar) _ _ (low_below scalar z) (low_below scalar w)))

pub or_holds : (scalar : Scalar) (r s : Range) (z w : ℤ) → r.high ≤ℤ greatest_of scalar → s.high ≤ℤ greatest_of scalar → InRange z (type_range scalar) → InRange w (type_range scalar) → InRange z r → InRange w s → InRange (of_bits scalar (bit_or (low_bits scalar z) (low_bits scalar w))) (or_range (type_range scalar) r s)
or_holds = mix_holds bit_or or_lt

pub xor_holds : (scalar : Scalar) (r s : Range) (z w : ℤ) → r.high ≤ℤ greatest_of scalar → s.high ≤ℤ greatest_of scalar → InRange z (type_range scalar) → InRange w (type_range scalar) → InRange z r → InRange w s → InRange (of_bits scalar (bit_xor (low_bits scalar z) (low_bits scalar w))) (or_range (type_range scalar) r s)
xor_holds = mix_holds bit_xor xor_lt

-- ---- `>>`
pub shr_holds : (r : Range) (z : ℤ) (k : ℕ) → InRange z r → InRange (int_shr z k) (shr_range r)
shr_holds r (pos n) k h = let e : n / 2 ^ k ≤ n = div-le_self n (2 ^ k) in record { from = omega (arith, ints, clamps); to = omega (arith, ints, clamps, h.to) }
shr_holds r (negsuc n) k h = let e : n / 2 ^ k ≤ n = div-le_self n (2 ^ k) in record { from = omega (arith, ints, clamps, h.from); to = omega (arith, ints, clamps) }

-- ---- comparisons
pub lt_is : (a b : ℤ) → int_lt a b ≡ true → a <ℤ b
lt_is a b h = grind (arith, ints)

pub is_lt : (a b : ℤ) → a <ℤ b → int_lt a b ≡ true
is_lt a b h = grind (arith, ints)

either : (a b : Bool) → (a || b) ≡ true → (a ≡ true) ⊎ (b ≡ true)
either true b h = inl refl
either false b h = inr h

-- what holds of all pairs holds of each
pub surely_holds : (cmp : Cmp) (r s : Range) (z w : ℤ) → InRange z r → InRange w s → surely cmp r s ≡ true → cmp_of cmp z w ≡ true
surely_holds Eq r s z w h k e =
    let t : (int_le r.high s.low ≡ true) × (int_le s.high r.low ≡ true) = two _ _ e in
    let p : r.high ≤ℤ s.low = (le_tells r.high s.low).is_so t.0 in
    let q : s.high ≤ℤ r.low = (le_tells s.high r.low).is_so t.1 in
    both_true _ _ ((le_tells z w).so_is (omega (arith, ints, h.to, k.from))) ((le_tells w z).so_is (omega (arith, ints, h.from, k.to)))
  where
    both_true : (a b : Bool) → a ≡ true → b ≡ true → (a && b) ≡ true
    both_true a b f g = cc
surely_holds Ne r s z w h k e = by (either _ _ e)
  where
    turned_by : (a b : Bool) → (a ≡ false) ⊎ (b ≡ false) → not (a && b) ≡ true
    turned_by true true (inl f) = cc
    turned_by true true (inr f) = cc
    turned_by true false f = refl
    turned_by false b f = refl

    over : (a b : ℤ) → b <ℤ a → int_le a b ≡ false
    over a b l = grind (arith, ints)

    by : (int_lt r.high s.low ≡ true) ⊎ (int_lt s.high r.low ≡ true) → not (int_le z w && int_le w z) ≡ true
    by (inl f) = let l : r.high <ℤ s.low = lt_is r.high s.low f in turned_by _ _ (inr (over w z (omega (arith, ints, h.to, k.from))))
    by (inr f) = let l : s.high <ℤ r.low = lt_is s.high r.low f in turned_by _ _ (inl (over z w (omega (arith, ints, h.from, k.to))))
surely_holds Lt r s z w h k e = let l : r.high <ℤ s.low = lt_is r.high s.low e in is_lt z w (omega (arith, ints, h.to, k.from))
surely_holds Le r s z w h k e = let l : r.high ≤ℤ s.low = (le_tells r.high s.low).is_so e in (le_tells z w).so_is (omega (arith, ints, h.to, k.from))
surely_holds Gt r s z w h k e = let l : s.high <ℤ r.low = lt_is s.high r.low e in is_lt w z (omega (arith, ints, h.from, k.to))
surely_holds Ge r s z w h k e = let l : s.high ≤ℤ r.low = (le_tells s.high r.low).is_so e in (le_tells w z).so_is (omega (arith, ints, h.from, k.to))

pub opposite_is : (cmp : Cmp) (z w : ℤ) → cmp_of (opposite cmp) z w ≡ true → cmp_of cmp z w ≡ false
opposite_is Eq z w h = turned_back _ h
  where
    turned_back : (b : Bool) → not b ≡ true → b ≡ false
    turned_back true h = cc
    turned_back false h = refl
opposite_is Ne z w h = turned_on _ h
  where
    turned_on : (b : Bool) → b ≡ true → not b ≡ false
    turned_on true h = refl
    turned_on false h = cc
opposite_is Lt z w h = grind (arith, ints)
opposite_is Le z w h = grind (arith, ints)
opposite_is Gt z w h = grind (arith, ints)
opposite_is Ge z w h = grind (arith, ints)

truth_between : (b : Bool) → InRange (truth b) (record { low = pos 0; high = pos 1 })
truth_between true = record { from = omega (arith, ints); to = omega (arith, ints) }
truth_between false = record { from = omega (arith, ints); to = omega (arith, ints) }

pub truth_holds : (b : Bool) → InRange (truth b) (record { low = pos 0; high = pos 1 })
truth_holds b = truth_between b

pub cmp_holds : (cmp : Cmp) (r s : Range) (z w : ℤ) → InRange z r → InRange w s → InRange (truth (cmp_of cmp z w)) (cmp_range cmp r s)
cmp_holds cmp r s z w h k = by (surely cmp r s) (surely (opposite cmp) r s) refl refl
  where
    exactly : (b : Bool) (n : ℤ) → truth b ≡ n → InRange (truth b) (record { low = n; high = n })
    exactly b n e = subst (λ (m : ℤ). InRange m (record { low = n; high = n })) (sym e) (record { from = omega (arith, ints); to = omega (arith, ints) })

    by : (a b : Bool) → surely cmp r s ≡ a → surely (opposite cmp) r s ≡ b → InRange (truth (cmp_of cmp z w)) (cond a (record { low = pos 1; high = pos 1 }) (cond b (record { low = pos 0; high = pos 0 }) (record { low = pos 0; high = pos 1 })))
    by true b e f = exactly (cmp_of cmp z w) (pos 1) (ap truth (surely_holds cmp r s z w h k e))
    by false true e f = exactly (cmp_of cmp z w) (pos 0) (ap truth (opposite_is cmp z w (surely_holds (opposite cmp) r s z w h k f)))
    by false false e f = truth_between (cmp_of cmp z w)

-- ---- conversions
pub convert_holds : (target : Scalar) (r : Range) (z : ℤ) → InRange z r → InRange (wrapped target z) (convert_range target r)
convert_holds target r z h = unless_cases (type_range target) r (λ (t : Range). InRange (wrapped target z) t)
    (λ (p : least_of target ≤ℤ r.low) (q : r.high ≤ℤ greatest_of target). subst (λ (x : ℤ). InRange x r) (sym (wrapped_same target z (record { from = omega (arith, ints, p, h.from); to = omega (arith, ints, q, h.to) }))) h)
    (λ _. wrapped_in target z)
