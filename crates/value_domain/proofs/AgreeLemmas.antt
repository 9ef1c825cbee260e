-- What it means, bit by bit, that known bits are those of a number.
use Rattle.std.proofs.Common.{◌≡◌, ℕ, ◌-◌, ◌<◌, ◌≤◌, min, ℤ, ◌⊎◌, inl, inr, Bool, true, false, refl, sym, ◌∙◌, ap, arith, bit_and}
use Rattle.std.specs.Int.{bit_at}
use Rattle.std.proofs.lemmas.Bool.{cases_lt}
use Rattle.std.proofs.lemmas.Nat.{and_le_r}
use Rattle.std.proofs.lemmas.Nat.Bits.{bit_at_and, bit_at_above, same_from_bits}
use Rattle.gimple_ir.specs.declared.scalar.Scalar.{Scalar}
use Rattle.gimple_core.specs.Operators.{is_signed, of_bits, low_bits, bits_of, modulus_of}
use Rattle.value_domain.specs.declared.bits.Bits.{Bits}
use Rattle.value_domain.specs.Ranges.{InRange}
use Rattle.value_domain.specs.RangeOperators.{type_range}
use Rattle.value_domain.specs.Bitmasks.{pattern, Agrees, IsBits, AreBelow}
use Rattle.value_domain.specs.BitsLemmas.{bit_agrees, bit_below}
use Rattle.value_domain.specs.BitOperators.{mask_above, value_above}
use Rattle.value_domain.proofs.ScalarLemmas.{width_bound}
use Rattle.value_domain.proofs.TwosLemmas.{bit_of, low_bit, pattern_bit, of_bits_bit, zeros_above, signs_above, value_above_bit, mask_above_bit, mask_above_ones, mask_above_sign, value_above_zeros, value_above_sign}

-- known bits of a scalar's width
pub record BitsOf (scalar : Scalar) (b : Bits) : Type 0 where
  pub within : IsBits b
  pub short : b.mask < modulus_of scalar

pub value_short : (scalar : Scalar) (b : Bits) → BitsOf scalar b → b.value < modulus_of scalar
value_short scalar b f =
    let e : bit_and b.value b.mask ≡ b.value = f.within in
    let h : bit_and b.value b.mask ≤ b.mask = and_le_r b.value b.mask in
    let k = f.short in
    omega arith

pub min_by : (x y p q v w : ℕ) → x ≡ y → p ≡ q → v ≡ w → min y q ≡ w → min x p ≡ v
min_by x y p q v w a b c d = ap (λ (n : ℕ). min n p) a ∙ (ap (λ (n : ℕ). min y n) b ∙ (d ∙ sym c))

pub inside : (scalar : Scalar) (i : ℕ) → i < bits_of scalar → i < 64
inside scalar i h = let w = width_bound scalar in omega (arith, w.1)

pub agree_bit : (z : ℤ) (b : Bits) (i : ℕ) → i < 64 → Agrees (pattern z) b → min (bit_of z i) (bit_at b.mask i) ≡ bit_at b.value i
agree_bit z b i h a = ap (λ (n : ℕ). min n (bit_at b.mask i)) (sym (pattern_bit z i h)) ∙ bit_agrees (pattern z) i b a

both_zero : (x p v : ℕ) → p ≡ 0 → v ≡ 0 → min x p ≡ v
both_zero x p v e f = omega arith

-- only the bits of the width matter
pub agrees_by : (scalar : Scalar) (n : ℕ) (b : Bits) → b.mask < modulus_of scalar → b.value < modulus_of scalar → ((i : ℕ) → i < bits_of scalar → min (bit_at n i) (bit_at b.mask i) ≡ bit_at b.value i) → Agrees n b
agrees_by scalar n b h k each = same_from_bits _ _ (λ i. bit_at_and n b.mask i ∙ by i (cases_lt i (bits_of scalar)))
  where
    by : (i : ℕ) → (i < bits_of scalar) ⊎ (bits_of scalar ≤ i) → min (bit_at n i) (bit_at b.mask i) ≡ bit_at b.value i
    by i (inl l) = each i l
    by i (inr u) = both_zero (bit_at n i) (bit_at b.mask i) (bit_at b.value i) (bit_at_above b.mask (bits_of scalar) i h u) (bit_at_above b.value (bits_of scalar) i k u)

pub agree_from : (scalar : Scalar) (z : ℤ) (b : Bits) → b.mask < modulus_of scalar → b.value < modulus_of scalar → ((i : ℕ) → i < bits_of scalar → min (bit_of z i) (bit_at b.mask i) ≡ bit_at b.value i) → Agrees (pattern z) b
agree_from scalar z b h k each = agrees_by scalar (pattern z) b h k (λ i l. ap (λ (n : ℕ). min n (bit_at b.mask i)) (pattern_bit z i (inside scalar i l)) ∙ each i l)

-- the low bits of a number agree with what its 64 bits agree with, and the other way round
pub to_low : (scalar : Scalar) (z : ℤ) (b : Bits) → BitsOf scalar b → Agrees (pattern z) b → Agrees (low_bits scalar z) b
to_low scalar z b f a = agrees_by scalar (low_bits scalar z) b f.short (value_short scalar b f) (λ i l. ap (λ (n : ℕ). min n (bit_at b.mask i)) (low_bit scalar z i l) ∙ agree_bit z b i (inside scalar i l) a)

pub from_low_bits : (scalar : Scalar) (n : ℕ) (b : Bits) → n < modulus_of scalar → b.mask < modulus_of scalar → b.value < modulus_of scalar → Agrees n b → Agrees (pattern (of_bits scalar n)) b
from_low_bits scalar n b h k l a = agree_from scalar (of_bits scalar n) b k l (λ i m. ap (λ (x : ℕ). min x (bit_at b.mask i)) (of_bits_bit scalar n i h m) ∙ bit_agrees n i b a)

-- ---- with the bits above the width
zero_one : (x p v : ℕ) → x ≡ 0 → p ≡ 1 → v ≡ 0 → min x p ≡ v
zero_one x p v e f g = omega arith

last_inside : (scalar : Scalar) → bits_of scalar - 1 < bits_of scalar
last_inside scalar = let w = width_bound scalar in omega (arith, w.0)

-- what agrees with known bits within the width, and goes on as the scalar says, agrees with them everywhere
pub spread : (scalar : Scalar) (b : Bits) (g : ℕ → ℕ) → BitsOf scalar b
    → ((i : ℕ) → i < bits_of scalar → min (g i) (bit_at b.mask i) ≡ bit_at b.value i)
    → (is_signed scalar ≡ false → (i : ℕ) → bits_of scalar ≤ i → g i ≡ 0)
    → (is_signed scalar ≡ true → (i : ℕ) → bits_of scalar - 1 ≤ i → g i ≡ g (bits_of scalar - 1))
    → (i : ℕ) → min (g i) (bit_of (mask_above scalar b) i) ≡ bit_of (value_above scalar b) i
spread scalar b g f each zeros signs i = by (is_signed scalar) refl (cases_lt i (bits_of scalar))
  where
    within : (j : ℕ) → j < bits_of scalar → min (g j) (bit_of (mask_above scalar b) j) ≡ bit_of (value_above scalar b) j
    within j l = min_by _ _ _ _ _ _ refl (mask_above_bit scalar b j f.short l) (value_above_bit scalar b j (value_short scalar b f) l) (each j l)

    by : (s : Bool) → is_signed scalar ≡ s → (i < bits_of scalar) ⊎ (bits_of scalar ≤ i) → min (g i) (bit_of (mask_above scalar b) i) ≡ bit_of (value_above scalar b) i
    by s e (inl l) = within i l
    by false e (inr u) = zero_one _ _ _ (zeros e i u) (mask_above_ones scalar b i e f.short u) (value_above_zeros scalar b i e (value_short scalar b f) u)
    by true e (inr u) =
        let v : bits_of scalar - 1 ≤ i = omega arith in
        min_by _ _ _ _ _ _ (signs e i v) (mask_above_sign scalar b i e f.short v) (value_above_sign scalar b i e (value_short scalar b f) v) (within (bits_of scalar - 1) (last_inside scalar))

pub number_spread : (scalar : Scalar) (z : ℤ) (b : Bits) → BitsOf scalar b → InRange z (type_range scalar) → Agrees (pattern z) b → (i : ℕ) → min (bit_of z i) (bit_of (mask_above scalar b) i) ≡ bit_of (value_above scalar b) i
number_spread scalar z b f h a = spread scalar b (bit_of z) f (λ i l. agree_bit z b i (inside scalar i l) a) (λ e i u. zeros_above scalar z i e h u) (λ e i u. signs_above scalar z i e h u)

-- the value of known bits, of which others know fewer
pub value_spread : (scalar : Scalar) (a b : Bits) → BitsOf scalar a → BitsOf scalar b → Agrees a.value b → (i : ℕ) → min (bit_of (value_above scalar a) i) (bit_of (mask_above scalar b) i) ≡ bit_of (value_above scalar b) i
value_spread scalar a b f g h = spread scalar b (bit_of (value_above scalar a)) g
    (λ i l. ap (λ (n : ℕ). min n (bit_at b.mask i)) (value_above_bit scalar a i (value_short scalar a f) l) ∙ bit_agrees a.value i b h)
    (λ e i u. value_above_zeros scalar a i e (value_short scalar a f) u)
    (λ e i u. value_above_sign scalar a i e (value_short scalar a f) u)

one_one : (p q : ℕ) → p ≡ 1 → q ≡ 1 → min p q ≡ q
one_one p q e f = omega arith

pub mask_spread : (scalar : Scalar) (a b : Bits) → a.mask < modulus_of scalar → b.mask < modulus_of scalar → AreBelow a b → (i : ℕ) → min (bit_of (mask_above scalar a) i) (bit_of (mask_above scalar b) i) ≡ bit_of (mask_above scalar b) i
mask_spread scalar a b h k m i = by (is_signed scalar) refl (cases_lt i (bits_of scalar))
  where
    within : (j : ℕ) → j < bits_of scalar → min (bit_of (mask_above scalar a) j) (bit_of (mask_above scalar b) j) ≡ bit_of (mask_above scalar b) j
    within j l = min_by _ _ _ _ _ _ (mask_above_bit scalar a j h l) (mask_above_bit scalar b j k l) (mask_above_bit scalar b j k l) (bit_below a b j m).0

    by : (s : Bool) → is_signed scalar ≡ s → (i < bits_of scalar) ⊎ (bits_of scalar ≤ i) → min (bit_of (mask_above scalar a) i) (bit_of (mask_above scalar b) i) ≡ bit_of (mask_above scalar b) i
    by s e (inl l) = within i l
    by false e (inr u) = one_one _ _ (mask_above_ones scalar a i e h u) (mask_above_ones scalar b i e k u)
    by true e (inr u) =
        let v : bits_of scalar - 1 ≤ i = omega arith in
        min_by _ _ _ _ _ _ (mask_above_sign scalar a i e h v) (mask_above_sign scalar b i e k v) (mask_above_sign scalar b i e k v) (within (bits_of scalar - 1) (last_inside scalar))
