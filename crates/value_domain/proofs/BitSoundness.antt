-- What is known of the bits of results holds of the results.
use Rattle.std.proofs.Common.{cond, ◌≡◌, ℕ, ◌+◌, ◌*◌, ◌%◌, ◌^◌, ◌-◌, ◌<◌, ◌≤◌, ◌==◌, min, ℤ, pos, ◌≤ℤ◌, ◌⊎◌, inl, inr, Bool, true, false, not, ◌&&◌, refl, sym, ◌∙◌, ap, subst, arith, bit_and, bit_or, bit_xor, Option, Some, None, Err, int_le}
use Rattle.std.specs.Int.{bit_at, w64, int_shr, trailing_ones}
use Rattle.std.proofs.lemmas.Int.{ints}
use Rattle.std.proofs.lemmas.Bool.{cases_lt, eqb-true, eq-eqb}
use Rattle.std.proofs.lemmas.Nat.{mod_below, pow_pos, and_le_l, or_lt, xor_lt, and_mask}
use Rattle.std.proofs.lemmas.Nat.Bits.{bit_at_and, bit_at_xor, bit_at-lt, bit_at-zero, bit_at_above, bit_at_ones, bit_at_ones_above, bit_at_cat_low, bit_at_cat_high, same_from_bits, bit_at-trailing_ones, same_from_bits_below}
use Rattle.std.proofs.Math.Nat.{mod-eq_of_lt, pow-le-pow_right}
use Rattle.gimple_ir.specs.declared.scalar.Scalar.{Scalar}
use Rattle.gimple_ir.specs.declared.scalar.Scalar.TheVariants.{I8, I16, I32, I64, U8, U16, U32, U64, Ptr}
use Rattle.gimple_ir.specs.declared.scalar.Mode.{Mode}
use Rattle.gimple_ir.specs.declared.scalar.Mode.TheVariants.{Trap, Wrap}
use Rattle.gimple_ir.specs.declared.scalar.Cmp.{Cmp}
use Rattle.gimple_ir.specs.declared.scalar.Cmp.TheVariants.{Eq, Ne, Lt, Le, Gt, Ge}
use Rattle.gimple_ir.specs.declared.value.TrapKind.TheVariants.{Overflow}
use Rattle.gimple_core.specs.Operators.{is_signed, in_scalar, kept, wrapped, of_bits, low_bits, bits_of, modulus_of, cmp_of}
use Rattle.value_domain.specs.declared.bits.Bits.{Bits}
use Rattle.value_domain.specs.Ranges.{InRange}
use Rattle.value_domain.specs.RangeOperators.{type_range}
use Rattle.value_domain.specs.Bitmasks.{pattern, Agrees, and_known, or_known, xor_known, conflict}
use Rattle.value_domain.specs.BitsLemmas.{bit_agrees, and_sound, or_sound, xor_sound}
use Rattle.value_domain.specs.BitOperators.{unknown_bits, exact_bits, number_of, low_exact, mask_above, value_above, shifted_left, shifted_right, converted_bits, truth, exact_truth, some_truth, apart_result, unless_apart, compared_bits, cmp_bits}
use Rattle.value_domain.proofs.ScalarLemmas.{okay, two, low_below, of_low, halves, wrapped_is}
use Rattle.value_domain.specs.FitLemmas.{le_tells}
use Rattle.value_domain.proofs.TwosLemmas.{bit_of, bit_of-lt, low_bit, pattern_bit, mod_bit, of_bits_bit, wrapped_bit, shr_bit}
use Rattle.value_domain.proofs.AgreeLemmas.{BitsOf, value_short, min_by, inside, agree_from, to_low, from_low_bits, number_spread}

-- nothing is known, or all
pub unknown_holds : (n : ℕ) → Agrees n unknown_bits
unknown_holds n = same_from_bits _ _ (λ i. bit_at_and n 0 i ∙ (ap (λ (p : ℕ). min (bit_at n i) p) (bit_at-zero i) ∙ (zero_side (bit_at n i) ∙ sym (bit_at-zero i))))
  where
    zero_side : (x : ℕ) → min x 0 ≡ 0
    zero_side x = omega arith

one_side : (x p v : ℕ) → x < 2 → p ≡ 1 → x ≡ v → min x p ≡ v
one_side x p v h e f = omega arith

pub exact_holds : (scalar : Scalar) (z : ℤ) → Agrees (pattern z) (exact_bits scalar z)
exact_holds scalar z = agree_from scalar z (exact_bits scalar z) (let p = halves scalar in omega arith) (low_below scalar z) (λ i l. one_side _ _ _ (bit_of-lt z i) (bit_at_ones (bits_of scalar) i l) (sym (low_bit scalar z i l)))

-- where all bits are known, the number is the known one
pub number_cases : (scalar : Scalar) (b : Bits) (P : Option ℤ → Type 0) → (b.mask ≡ modulus_of scalar - 1 → P (Some (wrapped scalar (pos b.value)))) → P None → P (number_of scalar b)
number_cases scalar b P h k = by (b.mask == modulus_of scalar - 1) refl
  where
    by : (t : Bool) → (b.mask == modulus_of scalar - 1) ≡ t → P (cond t (Some (wrapped scalar (pos b.value))) None)
    by true e = h (eqb-true _ _ e)
    by false e = k

pub number_is : (scalar : Scalar) (z : ℤ) (b : Bits) → BitsOf scalar b → InRange z (type_range scalar) → Agrees (pattern z) b → b.mask ≡ modulus_of scalar - 1 → wrapped scalar (pos b.value) ≡ z
number_is scalar z b f h a e =
    let low : bit_and (low_bits scalar z) b.mask ≡ b.value = to_low scalar z b f a in
    let full : bit_and (low_bits scalar z) (modulus_of scalar - 1) ≡ b.value = subst (λ (m : ℕ). bit_and (low_bits scalar z) m ≡ b.value) e low in
    let same : low_bits scalar z ≡ b.value = sym (mod-eq_of_lt (low_below scalar z)) ∙ (sym (and_mask (low_bits scalar z) (bits_of scalar)) ∙ full) in
    wrapped_is scalar (pos b.value) ∙ (ap (of_bits scalar) (mod-eq_of_lt (value_short scalar b f) ∙ sym same) ∙ of_low scalar z h)

-- ---- bit by bit
and_small : (m a b : ℕ) → a < m → bit_and a b < m
and_small m a b h = let k : bit_and a b ≤ a = and_le_l a b in omega arith

pub and_of : (scalar : Scalar) (a b : Bits) → BitsOf scalar a → BitsOf scalar b → BitsOf scalar (and_known a b)
and_of scalar a b f g = record {
  within = and_sound a.value b.value a b f.within g.within;
  short = or_lt (bits_of scalar) _ _ (or_lt (bits_of scalar) _ _ (and_small _ _ _ f.short) (xor_lt (bits_of scalar) _ _ f.short (value_short scalar a f))) (xor_lt (bits_of scalar) _ _ g.short (value_short scalar b g));
}

pub or_of : (scalar : Scalar) (a b : Bits) → BitsOf scalar a → BitsOf scalar b → BitsOf scalar (or_known a b)
or_of scalar a b f g = record {
  within = or_sound a.value b.value a b f.within g.within;
  short = or_lt (bits_of scalar) _ _ (or_lt (bits_of scalar) _ _ (and_small _ _ _ f.short) (value_short scalar a f)) (value_short scalar b g);
}

again_row : (x p : ℕ) → min (min x p) p ≡ min x p
again_row x p = omega arith

pub xor_of : (scalar : Scalar) (a b : Bits) → BitsOf scalar a → BitsOf scalar b → BitsOf scalar (xor_known a b)
xor_of scalar a b f g = record {
  within = same_from_bits _ _ (λ i. bit_at_and _ _ i ∙ (ap (λ (n : ℕ). min n (bit_at (bit_and a.mask b.mask) i)) (bit_at_and (bit_xor a.value b.value) (bit_and a.mask b.mask) i) ∙ (again_row _ _ ∙ sym (bit_at_and (bit_xor a.value b.value) (bit_and a.mask b.mask) i))));
  short = and_small _ _ _ f.short;
}

pub and_holds : (scalar : Scalar) (z w : ℤ) (a b : Bits) → BitsOf scalar a → BitsOf scalar b → Agrees (pattern z) a → Agrees (pattern w) b → Agrees (pattern (of_bits scalar (bit_and (low_bits scalar z) (low_bits scalar w)))) (and_known a b)
and_holds scalar z w a b f g h k = let r = and_of scalar a b f g in from_low_bits scalar _ (and_known a b) (and_small _ _ _ (low_below scalar z)) r.short (value_short scalar (and_known a b) r) (and_sound _ _ a b (to_low scalar z a f h) (to_low scalar w b g k))

pub or_holds : (scalar : Scalar) (z w : ℤ) (a b : Bits) → BitsOf scalar a → BitsOf scalar b → Agrees (pattern z) a → Agrees (pattern w) b → Agrees (pattern (of_bits scalar (bit_or (low_bits scalar z) (low_bits scalar w)))) (or_known a b)
or_holds scalar z w a b f g h k = let r = or_of scalar a b f g in from_low_bits scalar _ (or_known a b) (or_lt (bits_of scalar) _ _ (low_below scalar z) (low_below scalar w)) r.short (value_short scalar (or_known a b) r) (or_sound _ _ a b (to_low scalar z a f h) (to_low scalar w b g k))

pub xor_holds : (scalar : Scalar) (z w : ℤ) (a b : Bits) → BitsOf scalar a → BitsOf scalar b → Agrees (pattern z) a → Agrees (pattern w) b → Agrees (pattern (of_bits scalar (bit_xor (low_bits scalar z) (low_bits scalar w)))) (xor_known a b)
xor_holds scalar z w a b f g h k = let r = xor_of scalar a b f g in from_low_bits scalar _ (xor_known a b) (xor_lt (bits_of scalar) _ _ (low_below scalar z) (low_below scalar w)) r.short (value_short scalar (xor_known a b) r) (xor_sound _ _ a b (to_low scalar z a f h) (to_low scalar w b g k))

-- ---- the low bits
-- the numbers have the same bits of the scalar's width
abbrev pub SameBits : Scalar → ℤ → ℤ → Type 0
SameBits scalar x y = (i : ℕ) → i < bits_of scalar → bit_of x i ≡ bit_of y i

pub kept_bits : (mode : Mode) (scalar : Scalar) (y x : ℤ) → kept mode scalar y ≡ okay x → SameBits scalar x y
kept_bits Trap scalar y x e = by (is_signed scalar) (in_scalar scalar y) e
  where
    by : (s t : Bool) → cond s (cond t (okay y) (Err Overflow)) (okay (wrapped scalar y)) ≡ okay x → SameBits scalar x y
    by true true f = let g : y ≡ x = cc in λ i l. ap (λ (z : ℤ). bit_of z i) (sym g)
    by true false f = cc
    by false t f = let g : wrapped scalar y ≡ x = cc in λ i l. ap (λ (z : ℤ). bit_of z i) (sym g) ∙ wrapped_bit scalar y i l
kept_bits Wrap scalar y x e = let g : wrapped scalar y ≡ x = cc in λ i l. ap (λ (z : ℤ). bit_of z i) (sym g) ∙ wrapped_bit scalar y i l

pow_le : (t w : ℕ) → t ≤ w → 2 ^ t ≤ 2 ^ w
pow_le t w h = pow-le-pow_right {n = 2} (omega arith) h

pub low_short : (scalar : Scalar) (t n : ℕ) → t ≤ bits_of scalar → BitsOf scalar (low_exact t n)
low_short scalar t n h = record {
  within = and_mask (n % 2 ^ t) t ∙ mod-eq_of_lt (mod_below n (2 ^ t) (pow_pos t));
  short = let p : 0 < 2 ^ t = pow_pos t in let q : 2 ^ t ≤ 2 ^ bits_of scalar = pow_le t (bits_of scalar) h in omega arith;
}

pub low_holds : (scalar : Scalar) (x y : ℤ) (t n : ℕ) → t ≤ bits_of scalar → SameBits scalar x y → pattern y % 2 ^ t ≡ n % 2 ^ t → Agrees (pattern x) (low_exact t n)
low_holds scalar x y t n h same e =
    let s = low_short scalar t n h in
    agree_from scalar x (low_exact t n) s.short (value_short scalar (low_exact t n) s) (λ i l. by i l (cases_lt i t))
  where
    by : (i : ℕ) → i < bits_of scalar → (i < t) ⊎ (t ≤ i) → min (bit_of x i) (bit_at (2 ^ t - 1) i) ≡ bit_at (n % 2 ^ t) i
    by i l (inl k) = one_side _ _ _ (bit_of-lt x i) (bit_at_ones t i k)
        (same i l ∙ (sym (pattern_bit y i (inside scalar i l)) ∙ (sym (mod_bit (pattern y) t i k) ∙ ap (λ (m : ℕ). bit_at m i) e)))
    by i l (inr u) = zero_both _ _ _ (bit_at_ones_above t i u) (bit_at_above (n % 2 ^ t) t i (mod_below n (2 ^ t) (pow_pos t)) u)
      where
        zero_both : (x p v : ℕ) → p ≡ 0 → v ≡ 0 → min x p ≡ v
        zero_both x p v e f = omega arith

-- how many low bits a number has without a gap
pub all_ones : trailing_ones w64 (2 ^ 64 - 1) ≡ 64
unfolding lib.Count.count_trailing_zeros
all_ones = refl

pub ones_low : (n i : ℕ) → n < 2 ^ 64 → i < trailing_ones w64 n → bit_at n i ≡ 1
ones_low n i h k = by (cases_lt (n + 1) (2 ^ 64))
  where
    by : (n + 1 < 2 ^ 64) ⊎ (2 ^ 64 ≤ n + 1) → bit_at n i ≡ 1
    by (inl l) = (bit_at-trailing_ones w64 n l).2 i k
    by (inr u) =
        let e : n ≡ 2 ^ 64 - 1 = omega arith in
        let f : i < trailing_ones w64 (2 ^ 64 - 1) = subst (λ (m : ℕ). i < trailing_ones w64 m) e k in
        let g : i < 64 = subst (λ (m : ℕ). i < m) all_ones f in
        ap (λ (m : ℕ). bit_at m i) e ∙ bit_at_ones 64 i g

-- there are no more of them than a number has bits
pub ones_within : (n w : ℕ) → n < 2 ^ w → w ≤ 64 → trailing_ones w64 n ≤ w
ones_within n w h k = by (cases_lt w (trailing_ones w64 n))
  where
    by : (w < trailing_ones w64 n) ⊎ (trailing_ones w64 n ≤ w) → trailing_ones w64 n ≤ w
    by (inl l) =
        let p : 2 ^ w ≤ 2 ^ 64 = pow_le w 64 k in
        let e : bit_at n w ≡ 1 = ones_low n w (omega arith) l in
        let f : bit_at n w ≡ 0 = bit_at_above n w w h (omega arith) in
        absurd (let g : 1 ≡ 0 = sym e ∙ f in omega arith)
    by (inr u) = u

-- all of them are known
pub low_full : (m n : ℕ) → m < 2 ^ 64 → (t : ℕ) → t ≤ trailing_ones w64 (bit_and m n) → (m % 2 ^ t ≡ 2 ^ t - 1) × (n % 2 ^ t ≡ 2 ^ t - 1)
low_full m n h t k = (full m (λ i l. (each i l).0), full n (λ i l. (each i l).1))
  where
    each : (i : ℕ) → i < t → (bit_at m i ≡ 1) × (bit_at n i ≡ 1)
    each i l =
        let s : bit_and m n < 2 ^ 64 = and_small _ _ _ h in
        let e : min (bit_at m i) (bit_at n i) ≡ 1 = sym (bit_at_and m n i) ∙ ones_low (bit_and m n) i s (omega arith) in
        let p : bit_at m i < 2 = bit_at-lt m i in
        let q : bit_at n i < 2 = bit_at-lt n i in
        (omega arith, omega arith)

    full : (x : ℕ) → ((i : ℕ) → i < t → bit_at x i ≡ 1) → x % 2 ^ t ≡ 2 ^ t - 1
    full x ones = same_from_bits_below t _ _ (mod_below x (2 ^ t) (pow_pos t)) (let p : 0 < 2 ^ t = pow_pos t in omega arith) (λ i l. mod_bit x t i l ∙ (ones i l ∙ sym (bit_at_ones t i l)))

-- ---- shifts and conversions
pub shr_holds : (scalar : Scalar) (z : ℤ) (a : Bits) (k : ℕ) → BitsOf scalar a → InRange z (type_range scalar) → Agrees (pattern z) a → Agrees (pattern (int_shr z k)) (shifted_right scalar a k)
shr_holds scalar z a k f h e = agree_from scalar (int_shr z k) (shifted_right scalar a k) (low_below scalar _) (low_below scalar _) (λ i l.
    min_by _ _ _ _ _ _ (shr_bit z k i) (low_bit scalar (int_shr (mask_above scalar a) k) i l ∙ shr_bit (mask_above scalar a) k i) (low_bit scalar (int_shr (value_above scalar a) k) i l ∙ shr_bit (value_above scalar a) k i) (number_spread scalar z a f h e (i + k)))

pub convert_holds : (target source : Scalar) (z : ℤ) (a : Bits) → BitsOf source a → InRange z (type_range source) → Agrees (pattern z) a → Agrees (pattern (wrapped target z)) (converted_bits target source a)
convert_holds target source z a f h e = agree_from target (wrapped target z) (converted_bits target source a) (low_below target _) (low_below target _) (λ i l.
    min_by _ _ _ _ _ _ (wrapped_bit target z i l) (low_bit target (mask_above source a) i l) (low_bit target (value_above source a) i l) (number_spread source z a f h e i))

pub shl_low : (n k i : ℕ) → i < k → bit_at (n * 2 ^ k) i ≡ 0
shl_low n k i h = ap (λ (m : ℕ). bit_at m i) (let e : n * 2 ^ k ≡ n * 2 ^ k + 0 = omega arith in e) ∙ (bit_at_cat_low n k 0 i h ∙ bit_at-zero i)

pub shl_high : (n k i : ℕ) → k ≤ i → bit_at (n * 2 ^ k) i ≡ bit_at n (i - k)
shl_high n k i h = ap (λ (m : ℕ). bit_at m i) (let e : n * 2 ^ k ≡ n * 2 ^ k + 0 = omega arith in e) ∙ bit_at_cat_high n k 0 i (pow_pos k) h

pub shl_ones_low : (n k i : ℕ) → i < k → bit_at (n * 2 ^ k + (2 ^ k - 1)) i ≡ 1
shl_ones_low n k i h = bit_at_cat_low n k (2 ^ k - 1) i h ∙ bit_at_ones k i h

pub shl_ones_high : (n k i : ℕ) → k ≤ i → bit_at (n * 2 ^ k + (2 ^ k - 1)) i ≡ bit_at n (i - k)
shl_ones_high n k i h = bit_at_cat_high n k (2 ^ k - 1) i (let p : 0 < 2 ^ k = pow_pos k in omega arith) h

zeros : (x p v : ℕ) → x ≡ 0 → p ≡ 1 → v ≡ 0 → min x p ≡ v
zeros x p v e f g = omega arith

-- what agrees with known bits, shifted, agrees with the shifted ones
pub shl_agrees : (n : ℕ) (a : Bits) (k i : ℕ) → ((j : ℕ) → j ≤ i → min (bit_at n j) (bit_at a.mask j) ≡ bit_at a.value j) → min (bit_at (n * 2 ^ k) i) (bit_at (a.mask * 2 ^ k + (2 ^ k - 1)) i) ≡ bit_at (a.value * 2 ^ k) i
shl_agrees n a k i each = by (cases_lt i k)
  where
    by : (i < k) ⊎ (k ≤ i) → min (bit_at (n * 2 ^ k) i) (bit_at (a.mask * 2 ^ k + (2 ^ k - 1)) i) ≡ bit_at (a.value * 2 ^ k) i
    by (inl l) = zeros _ _ _ (shl_low n k i l) (shl_ones_low a.mask k i l) (shl_low a.value k i l)
    by (inr u) = min_by _ _ _ _ _ _ (shl_high n k i u) (shl_ones_high a.mask k i u) (shl_high a.value k i u) (each (i - k) (omega arith))

pub shl_holds : (scalar : Scalar) (z : ℤ) (a : Bits) (k : ℕ) → BitsOf scalar a → Agrees (pattern z) a → Agrees (pattern (of_bits scalar (low_bits scalar z * 2 ^ k % modulus_of scalar))) (shifted_left scalar a k)
shl_holds scalar z a k f e =
    let p : 0 < modulus_of scalar = (let q = halves scalar in omega arith) in
    let low : Agrees (low_bits scalar z) a = to_low scalar z a f e in
    agree_from scalar _ (shifted_left scalar a k) (mod_below _ _ p) (mod_below _ _ p) (λ i l.
    min_by _ _ _ _ _ _ (of_bits_bit scalar _ i (mod_below _ _ p) l ∙ mod_bit (low_bits scalar z * 2 ^ k) (bits_of scalar) i l) (mod_bit (a.mask * 2 ^ k + (2 ^ k - 1)) (bits_of scalar) i l) (mod_bit (a.value * 2 ^ k) (bits_of scalar) i l)
    (shl_agrees (low_bits scalar z) a k i (λ j m. bit_agrees (low_bits scalar z) j a low)))

-- ---- comparisons
pub truth_holds : (target : Scalar) (b : Bool) → Agrees (pattern (truth b)) (some_truth target)
truth_holds I8 true = refl
truth_holds I8 false = refl
truth_holds I16 true = refl
truth_holds I16 false = refl
truth_holds I32 true = refl
truth_holds I32 false = refl
truth_holds I64 true = refl
truth_holds I64 false = refl
truth_holds U8 true = refl
truth_holds U8 false = refl
truth_holds U16 true = refl
truth_holds U16 false = refl
truth_holds U32 true = refl
truth_holds U32 false = refl
truth_holds U64 true = refl
truth_holds U64 false = refl
truth_holds Ptr true = refl
truth_holds Ptr false = refl

no_conflict_row : (x p q u v : ℕ) → x < 2 → p < 2 → q < 2 → min x p ≡ u → min x q ≡ v → min ((u + v) % 2) (min p q) ≡ 0
no_conflict_row x p q u v a b c d e = omega arith

-- one number agrees with both, so no bit that is known on both sides differs
pub no_conflict : (n : ℕ) (a b : Bits) → Agrees n a → Agrees n b → conflict a b ≡ 0
no_conflict n a b h k = same_from_bits _ _ (λ i. simp (bit_at_and, bit_at_xor) (no_conflict_row (bit_at n i) (bit_at a.mask i) (bit_at b.mask i) (bit_at a.value i) (bit_at b.value i) (bit_at-lt n i) (bit_at-lt a.mask i) (bit_at-lt b.mask i) (bit_agrees n i a h) (bit_agrees n i b k) ∙ sym (bit_at-zero i)))

equal_from : (z w : ℤ) → (int_le z w && int_le w z) ≡ true → z ≡ w
equal_from z w h = let e = two _ _ h in let p : z ≤ℤ w = (le_tells z w).is_so e.0 in let q : w ≤ℤ z = (le_tells w z).is_so e.1 in omega (arith, ints)

pub apart_holds : (target : Scalar) (cmp : Cmp) (z w : ℤ) (apart : Bool) (x : Bits) → (apart ≡ true → z ≡ w → ⊥) → Agrees (pattern (truth (cmp_of cmp z w))) x → Agrees (pattern (truth (cmp_of cmp z w))) (unless_apart target (apart_result cmp) apart x)
apart_holds target Eq z w true x h a = rw (never (int_le z w && int_le w z) (λ e. h refl (equal_from z w e))) (exact_holds target (pos 0))
  where
    never : (b : Bool) → (b ≡ true → ⊥) → b ≡ false
    never true h = absurd (h refl)
    never false h = refl
apart_holds target Eq z w false x h a = a
apart_holds target Ne z w true x h a = rw (never (int_le z w && int_le w z) (λ e. h refl (equal_from z w e))) (exact_holds target (pos 1))
  where
    never : (b : Bool) → (b ≡ true → ⊥) → b ≡ false
    never true h = absurd (h refl)
    never false h = refl
apart_holds target Ne z w false x h a = a
apart_holds target Lt z w apart x h a = a
apart_holds target Le z w apart x h a = a
apart_holds target Gt z w apart x h a = a
apart_holds target Ge z w apart x h a = a

pub compared_holds : (target : Scalar) (cmp : Cmp) (scalar : Scalar) (z w : ℤ) (a b : Bits) → BitsOf scalar a → BitsOf scalar b → InRange z (type_range scalar) → InRange w (type_range scalar) → Agrees (pattern z) a → Agrees (pattern w) b → Agrees (pattern (truth (cmp_of cmp z w))) (compared_bits target cmp (number_of scalar a) (number_of scalar b))
compared_holds target cmp scalar z w a b f g h k m n =
    let goal : ℤ → ℤ → Type 0 = λ x y. Agrees (pattern (truth (cmp_of cmp z w))) (exact_truth target (cmp_of cmp x y)) in
    let here : goal z w = exact_holds target (truth (cmp_of cmp z w)) in
    number_cases scalar a (λ o. Agrees (pattern (truth (cmp_of cmp z w))) (compared_bits target cmp o (number_of scalar b)))
    (λ p. number_cases scalar b (λ o. Agrees (pattern (truth (cmp_of cmp z w))) (compared_bits target cmp (Some (wrapped scalar (pos a.value))) o))
    (λ q. subst (λ x. goal x (wrapped scalar (pos b.value))) (sym (number_is scalar z a f h m p)) (subst (λ y. goal z y) (sym (number_is scalar w b g k n q)) here))
    (truth_holds target (cmp_of cmp z w)))
    (truth_holds target (cmp_of cmp z w))

pub cmp_holds : (target : Scalar) (cmp : Cmp) (scalar : Scalar) (z w : ℤ) (a b : Bits) → BitsOf scalar a → BitsOf scalar b → InRange z (type_range scalar) → InRange w (type_range scalar) → Agrees (pattern z) a → Agrees (pattern w) b → Agrees (pattern (truth (cmp_of cmp z w))) (cmp_bits target cmp scalar a b)
cmp_holds target cmp scalar z w a b f g h k m n = apart_holds target cmp z w (not (conflict a b == 0)) _ (λ e same. unequal e same) (compared_holds target cmp scalar z w a b f g h k m n)
  where
    unequal : not (conflict a b == 0) ≡ true → z ≡ w → ⊥
    unequal e same =
        let c : conflict a b ≡ 0 = no_conflict (pattern z) a b m (subst (λ (y : ℤ). Agrees (pattern y) b) (sym same) n) in
        let t : (conflict a b == 0) ≡ true = eq-eqb _ _ c in
        let u : not true ≡ true = subst (λ (x : Bool). not x ≡ true) t e in cc
