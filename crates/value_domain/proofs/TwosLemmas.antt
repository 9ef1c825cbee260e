-- The bits of whole numbers in two's complement, without end.
use Rattle.std.proofs.Common.{cond, ◌≡◌, ℕ, ◌+◌, ◌*◌, ◌/◌, ◌%◌, ◌^◌, ◌-◌, ◌<◌, ◌≤◌, ℤ, pos, negsuc, ◌-ℤ◌, Bool, true, false, refl, sym, ◌∙◌, ap, arith}
use Rattle.std.specs.Int.{bit_at, Width, w8, w16, w32, w64, int_shr}
use Rattle.std.proofs.lemmas.Nat.{mod_below, div-add-mod', pow_pos}
use Rattle.std.proofs.lemmas.Nat.Bits.{bit_at-lt, bit_at_not, bit_at_above, bit_at_cat_low, bit_at_cat_high}
use Rattle.gimple_ir.specs.declared.scalar.Scalar.{Scalar}
use Rattle.gimple_ir.specs.declared.scalar.Scalar.TheVariants.{I8, I16, I32, I64, U8, U16, U32, U64, Ptr}
use Rattle.gimple_core.specs.Operators.{is_signed, wrapped, of_bits, low_bits, bits_of, modulus_of, half_of}
use Rattle.value_domain.specs.declared.bits.Bits.{Bits}
use Rattle.value_domain.specs.Ranges.{InRange}
use Rattle.value_domain.specs.RangeOperators.{type_range}
use Rattle.value_domain.specs.Bitmasks.{pattern}
use Rattle.value_domain.specs.BitOperators.{mask_above, value_above}
use Rattle.value_domain.proofs.ScalarLemmas.{of_bits_cases, turned, low_below, wrapped_is, halves, pos_below, neg_below, wrapped_in}

abbrev pub bit_of : ℤ → ℕ → ℕ
bit_of (pos n) i = bit_at n i
bit_of (negsuc n) i = 1 - bit_at n i

pub bit_of-lt : (z : ℤ) (i : ℕ) → bit_of z i < 2
bit_of-lt (pos n) i = bit_at-lt n i
bit_of-lt (negsuc n) i = let h : bit_at n i < 2 = bit_at-lt n i in omega arith

-- the low k bits of a number have its bits below k
pub mod_bit : (n k i : ℕ) → i < k → bit_at (n % 2 ^ k) i ≡ bit_at n i
mod_bit n k i h = sym (bit_at_cat_low (n / 2 ^ k) k (n % 2 ^ k) i h) ∙ ap (λ (m : ℕ). bit_at m i) (div-add-mod' n (2 ^ k))

turned_bit : (w : Width) (m n i : ℕ) → m < 2 ^ mir.Val.bits w → i < mir.Val.bits w → bit_at m i ≡ bit_at n i → bit_at (2 ^ mir.Val.bits w - 1 - m) i ≡ 1 - bit_at n i
turned_bit w m n i h k e = bit_at_not w m i h k ∙ ap (λ (x : ℕ). 1 - x) e

-- the bits of m turned around, at each scalar's width
pub not_bit : (scalar : Scalar) (m n i : ℕ) → m < modulus_of scalar → i < bits_of scalar → bit_at m i ≡ bit_at n i → bit_at (modulus_of scalar - 1 - m) i ≡ 1 - bit_at n i
not_bit I8 m n i h k e = turned_bit w8 m n i h k e
not_bit I16 m n i h k e = turned_bit w16 m n i h k e
not_bit I32 m n i h k e = turned_bit w32 m n i h k e
not_bit I64 m n i h k e = turned_bit w64 m n i h k e
not_bit U8 m n i h k e = turned_bit w8 m n i h k e
not_bit U16 m n i h k e = turned_bit w16 m n i h k e
not_bit U32 m n i h k e = turned_bit w32 m n i h k e
not_bit U64 m n i h k e = turned_bit w64 m n i h k e
not_bit Ptr m n i h k e = turned_bit w64 m n i h k e

pub low_bit : (scalar : Scalar) (z : ℤ) (i : ℕ) → i < bits_of scalar → bit_at (low_bits scalar z) i ≡ bit_of z i
low_bit scalar (pos n) i h = mod_bit n (bits_of scalar) i h
low_bit scalar (negsuc n) i h = let p = halves scalar in not_bit scalar (n % modulus_of scalar) n i (mod_below n (modulus_of scalar) (omega arith)) h (mod_bit n (bits_of scalar) i h)

pub pattern_bit : (z : ℤ) (i : ℕ) → i < 64 → bit_at (pattern z) i ≡ bit_of z i
pattern_bit z i h = low_bit U64 z i h

-- the number with given low bits has these bits
pub of_bits_bit : (scalar : Scalar) (n i : ℕ) → n < modulus_of scalar → i < bits_of scalar → bit_of (of_bits scalar n) i ≡ bit_at n i
of_bits_bit scalar n i h k = of_bits_cases scalar n (λ (z : ℤ). bit_of z i ≡ bit_at n i) (λ _. refl) (λ _ _.
    let b : bit_at n i < 2 = bit_at-lt n i in
    let e : bit_at (modulus_of scalar - 1 - n) i ≡ 1 - bit_at n i = not_bit scalar n n i h k refl in
    let f : 1 - bit_at (modulus_of scalar - 1 - n) i ≡ bit_at n i = omega arith in
    ap (λ (z : ℤ). bit_of z i) (turned n (modulus_of scalar) h) ∙ f)

pub wrapped_bit : (scalar : Scalar) (z : ℤ) (i : ℕ) → i < bits_of scalar → bit_of (wrapped scalar z) i ≡ bit_of z i
wrapped_bit scalar z i h = ap (λ (y : ℤ). bit_of y i) (wrapped_is scalar z) ∙ (of_bits_bit scalar (low_bits scalar z) i (low_below scalar z) h ∙ low_bit scalar z i h)

-- above an unsigned scalar's bits stand zeros, from a signed scalar's highest bit on its sign
pub zeros_above : (scalar : Scalar) (z : ℤ) (i : ℕ) → is_signed scalar ≡ false → InRange z (type_range scalar) → bits_of scalar ≤ i → bit_of z i ≡ 0
zeros_above scalar (pos n) i s h k = bit_at_above n (bits_of scalar) i (pos_below scalar n h).0 k
zeros_above scalar (negsuc n) i s h k = let p = (neg_below scalar n h).0 in let g : true ≡ false = sym p ∙ s in cc

pub signs_above : (scalar : Scalar) (z : ℤ) (i : ℕ) → is_signed scalar ≡ true → InRange z (type_range scalar) → bits_of scalar - 1 ≤ i → bit_of z i ≡ bit_of z (bits_of scalar - 1)
signs_above scalar (pos n) i s h k = let p : n < half_of scalar = (pos_below scalar n h).1 s in bit_at_above n (bits_of scalar - 1) i p k ∙ sym (bit_at_above n (bits_of scalar - 1) (bits_of scalar - 1) p (omega arith))
signs_above scalar (negsuc n) i s h k =
    let p : n < half_of scalar = (neg_below scalar n h).1 in
    ap (λ (x : ℕ). 1 - x) (bit_at_above n (bits_of scalar - 1) i p k ∙ sym (bit_at_above n (bits_of scalar - 1) (bits_of scalar - 1) p (omega arith)))

-- ---- known bits, with those above
pub value_above_bit : (scalar : Scalar) (b : Bits) (i : ℕ) → b.value < modulus_of scalar → i < bits_of scalar → bit_of (value_above scalar b) i ≡ bit_at b.value i
value_above_bit scalar b i h k = wrapped_bit scalar (pos b.value) i k

choose : (c : Bool) (P : ℤ → Type 0) (x y : ℤ) → (c ≡ true → P x) → (c ≡ false → P y) → P (cond c x y)
choose true P x y h k = h refl
choose false P x y h k = k refl

pub mask_cases : (scalar : Scalar) (b : Bits) (P : ℤ → Type 0) → (is_signed scalar ≡ true → P (wrapped scalar (pos b.mask))) → (is_signed scalar ≡ false → P (pos b.mask -ℤ pos (modulus_of scalar))) → P (mask_above scalar b)
mask_cases scalar b P h k = choose (is_signed scalar) P (wrapped scalar (pos b.mask)) (pos b.mask -ℤ pos (modulus_of scalar)) h k

pub mask_above_bit : (scalar : Scalar) (b : Bits) (i : ℕ) → b.mask < modulus_of scalar → i < bits_of scalar → bit_of (mask_above scalar b) i ≡ bit_at b.mask i
mask_above_bit scalar b i h k = mask_cases scalar b (λ (z : ℤ). bit_of z i ≡ bit_at b.mask i) (λ _. wrapped_bit scalar (pos b.mask) i k) (λ _.
    let c : bit_at b.mask i < 2 = bit_at-lt b.mask i in
    let e : bit_at (modulus_of scalar - 1 - b.mask) i ≡ 1 - bit_at b.mask i = not_bit scalar b.mask b.mask i h k refl in
    let f : 1 - bit_at (modulus_of scalar - 1 - b.mask) i ≡ bit_at b.mask i = omega arith in
    ap (λ (z : ℤ). bit_of z i) (turned b.mask (modulus_of scalar) h) ∙ f)

pub mask_above_ones : (scalar : Scalar) (b : Bits) (i : ℕ) → is_signed scalar ≡ false → b.mask < modulus_of scalar → bits_of scalar ≤ i → bit_of (mask_above scalar b) i ≡ 1
mask_above_ones scalar b i s h k = mask_cases scalar b (λ (z : ℤ). bit_of z i ≡ 1) (λ t. absurd (let g : true ≡ false = sym t ∙ s in cc)) (λ _.
    ap (λ (z : ℤ). bit_of z i) (turned b.mask (modulus_of scalar) h) ∙ ap (λ (x : ℕ). 1 - x) (bit_at_above (modulus_of scalar - 1 - b.mask) (bits_of scalar) i (let p = halves scalar in omega arith) k))

pub mask_above_sign : (scalar : Scalar) (b : Bits) (i : ℕ) → is_signed scalar ≡ true → b.mask < modulus_of scalar → bits_of scalar - 1 ≤ i → bit_of (mask_above scalar b) i ≡ bit_of (mask_above scalar b) (bits_of scalar - 1)
mask_above_sign scalar b i s h k = mask_cases scalar b (λ (z : ℤ). bit_of z i ≡ bit_of z (bits_of scalar - 1)) (λ t. signs_above scalar (wrapped scalar (pos b.mask)) i t (wrapped_in scalar (pos b.mask)) k) (λ t. absurd (let g : true ≡ false = sym s ∙ t in cc))

pub value_above_zeros : (scalar : Scalar) (b : Bits) (i : ℕ) → is_signed scalar ≡ false → b.value < modulus_of scalar → bits_of scalar ≤ i → bit_of (value_above scalar b) i ≡ 0
value_above_zeros scalar b i s h k = zeros_above scalar (wrapped scalar (pos b.value)) i s (wrapped_in scalar (pos b.value)) k

pub value_above_sign : (scalar : Scalar) (b : Bits) (i : ℕ) → is_signed scalar ≡ true → b.value < modulus_of scalar → bits_of scalar - 1 ≤ i → bit_of (value_above scalar b) i ≡ bit_of (value_above scalar b) (bits_of scalar - 1)
value_above_sign scalar b i s h k = signs_above scalar (wrapped scalar (pos b.value)) i s (wrapped_in scalar (pos b.value)) k

-- ---- shifts

divided_bit : (n k i : ℕ) → bit_at (n / 2 ^ k) i ≡ bit_at n (i + k)
divided_bit n k i =
    let h : n % 2 ^ k < 2 ^ k = mod_below n (2 ^ k) (pow_pos k) in
    let e : bit_at (n / 2 ^ k * 2 ^ k + n % 2 ^ k) (i + k) ≡ bit_at (n / 2 ^ k) (i + k - k) = bit_at_cat_high (n / 2 ^ k) k (n % 2 ^ k) (i + k) h (omega arith) in
    let f : i + k - k ≡ i = omega arith in
    sym (ap (λ (j : ℕ). bit_at (n / 2 ^ k) j) f) ∙ (sym e ∙ ap (λ (m : ℕ). bit_at m (i + k)) (div-add-mod' n (2 ^ k)))

pub shr_bit : (z : ℤ) (k i : ℕ) → bit_of (int_shr z k) i ≡ bit_of z (i + k)
shr_bit (pos n) k i = divided_bit n k i
shr_bit (negsuc n) k i = ap (λ (x : ℕ). 1 - x) (divided_bit n k i)
