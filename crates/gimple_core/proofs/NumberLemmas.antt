-- What the operators' code knows of its numbers.
use Rattle.std.proofs.Common.{◌≡◌, ℕ, zero, suc, ◌*◌, ◌%◌, ◌^◌, ◌<◌, ◌≤◌, ℤ, pos, negsuc, neg_ℤ, ◌*ℤ◌, true, false, refl, sym, ◌==◌, unsigned_abs, int_div, int_rem, FitsSigned, ap, arith, lit<, ◌∙◌, Ok}
use Rattle.std.proofs.lemmas.Int.{ints, fits_signed_from_abs, fits_signed_mul}
use Rattle.std.proofs.Math.Nat.{div-le_self, mod-le}
use Rattle.std.proofs.Math.Dec.{eqb-suc-zero}
use Rattle.std.specs.Int.{w128, cast_unsigned}
use Rattle.std.proofs.Math.Pow.{mod-mod-pow}
use Rattle.gimple_ir.specs.declared.scalar.Scalar.{Scalar}
use Rattle.gimple_ir.specs.declared.scalar.Mode.{Mode}
use Rattle.gimple_ir.specs.declared.scalar.Mode.TheVariants.{Trap, Wrap}
use Rattle.gimple_ir.specs.declared.scalar.Scalar.TheVariants.{I8, I16, I32, I64, U8, U16, U32, U64, Ptr}
use Rattle.gimple_core.specs.Operators.{IsWord, IsSignedWord, modulus_of, wrapped, of_bits, is_signed, in_scalar, kept}

-- a number whose bits are not 0 is not 0
pub abs_nonzero : (z : ℤ) → (cast_unsigned w128 z ≡ 0 → ⊥) → (unsigned_abs z == 0) ≡ false
abs_nonzero (pos zero) h = absurd (h refl)
abs_nonzero (pos (suc n)) h = eqb-suc-zero n
abs_nonzero (negsuc n) h = eqb-suc-zero n

-- a word is at most 2 ^ 64 away from 0
pub abs_word : (z : ℤ) → IsWord z → unsigned_abs z ≤ 2 ^ 64
abs_word (pos n) w = omega (arith, ints)
abs_word (negsuc n) w = omega (arith, ints)

abs_neg_pos : (n : ℕ) → unsigned_abs (neg_ℤ (pos n)) ≡ n
abs_neg_pos zero = refl
abs_neg_pos (suc n) = refl

abs_quotient : (l r : ℤ) → unsigned_abs (int_div l r) ≤ unsigned_abs l
abs_quotient (pos a) (pos b) = div-le_self a b
abs_quotient (pos a) (negsuc b) = rw abs_neg_pos (div-le_self a (suc b))
abs_quotient (negsuc a) (pos b) = rw abs_neg_pos (div-le_self (suc a) b)
abs_quotient (negsuc a) (negsuc b) = div-le_self (suc a) (suc b)

abs_remainder : (l r : ℤ) → unsigned_abs (int_rem l r) ≤ unsigned_abs l
abs_remainder (pos a) r = mod-le a (unsigned_abs r)
abs_remainder (negsuc a) r = rw abs_neg_pos (mod-le (suc a) (unsigned_abs r))

below_limit : (n : ℕ) → n ≤ 2 ^ 64 → n < 2 ^ 127
below_limit n h = omega arith

pub quotient_fits : (l r : ℤ) → IsWord l → FitsSigned w128 (int_div l r)
quotient_fits l r w = fits_signed_from_abs w128 (int_div l r) (below_limit _ (omega (arith, abs_quotient l r, abs_word l w)))

pub remainder_fits : (l r : ℤ) → IsWord l → FitsSigned w128 (int_rem l r)
remainder_fits l r w = fits_signed_from_abs w128 (int_rem l r) (below_limit _ (omega (arith, abs_remainder l r, abs_word l w)))

-- a remainder by 2 ^ 64 first makes no difference to a scalar's lowest bits
pub low_again : (scalar : Scalar) (n : ℕ) → n % 2 ^ 64 % modulus_of scalar ≡ n % modulus_of scalar
low_again I8 n = mod-mod-pow n 56 8
low_again I16 n = mod-mod-pow n 48 16
low_again I32 n = mod-mod-pow n 32 32
low_again I64 n = mod-mod-pow n 0 64
low_again U8 n = mod-mod-pow n 56 8
low_again U16 n = mod-mod-pow n 48 16
low_again U32 n = mod-mod-pow n 32 32
low_again U64 n = mod-mod-pow n 0 64
low_again Ptr n = mod-mod-pow n 0 64

pub wrapped_again : (scalar : Scalar) (n : ℕ) → wrapped scalar (pos (n % 2 ^ 64)) ≡ wrapped scalar (pos n)
unfolding wrapped
wrapped_again scalar n = rw (low_again scalar n) refl

pub wrapped_bits : (scalar : Scalar) (n : ℕ) → wrapped scalar (pos (n % 2 ^ 64)) ≡ of_bits scalar (n % modulus_of scalar)
unfolding wrapped
wrapped_bits scalar n = rw (low_again scalar n) refl

abs_signed_word : (z : ℤ) → IsSignedWord z → unsigned_abs z ≤ 2 ^ 63
abs_signed_word (pos n) w = omega (arith, ints)
abs_signed_word (negsuc n) w = omega (arith, ints)

pub product_fits : (l r : ℤ) → IsSignedWord l → IsSignedWord r → FitsSigned w128 (l *ℤ r)
product_fits l r v w = fits_signed_mul w128 l r (2 ^ 63) (2 ^ 63) (abs_signed_word l v) (abs_signed_word r w) (lit< tt)

not_negative : (scalar : Scalar) (z : ℤ) → is_signed scalar ≡ false → in_scalar scalar z ≡ true → pos (unsigned_abs z) ≡ z
not_negative scalar (pos n) s h = refl
not_negative I8 (negsuc n) s h = cc
not_negative I16 (negsuc n) s h = cc
not_negative I32 (negsuc n) s h = cc
not_negative I64 (negsuc n) s h = cc
not_negative U8 (negsuc n) s h = cc
not_negative U16 (negsuc n) s h = cc
not_negative U32 (negsuc n) s h = cc
not_negative U64 (negsuc n) s h = cc
not_negative Ptr (negsuc n) s h = cc

-- in either mode a result of an unsigned scalar wraps
unsigned_wraps : (mode : Mode) (scalar : Scalar) (z : ℤ) → is_signed scalar ≡ false → kept mode scalar z ≡ Ok (wrapped scalar z)
unsigned_wraps Trap scalar z s = rw s refl
unsigned_wraps Wrap scalar z s = refl

-- the product of two numbers of an unsigned scalar
pub unsigned_product : (mode : Mode) (scalar : Scalar) (l r : ℤ) → is_signed scalar ≡ false → in_scalar scalar l ≡ true → in_scalar scalar r ≡ true → kept mode scalar (l *ℤ r) ≡ Ok (wrapped scalar (pos (unsigned_abs l * unsigned_abs r)))
unsigned_product mode scalar l r s h k =
    unsigned_wraps mode scalar (l *ℤ r) s ∙ (ap (λ (z : ℤ). Ok (wrapped scalar z)) (sym (ap (λ (z : ℤ). z *ℤ r) (not_negative scalar l s h)) ∙ sym (ap (λ (z : ℤ). pos (unsigned_abs l) *ℤ z) (not_negative scalar r s k))))
