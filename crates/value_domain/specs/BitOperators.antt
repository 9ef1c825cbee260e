-- What is known of the bits of a result.
use Rattle.std.specs.Prelude.{◌≡◌, ℕ, ◌<◌, ◌+◌, ◌-◌, ◌*◌, ◌%◌, ◌^◌, ◌==◌, ℤ, pos, ◌-ℤ◌, bit_and, unsigned_abs, Bool, true, false, not, if◌then◌else◌, Option, Some, None, Result, Ok, Err}
use Rattle.std.specs.Int.{trailing_ones, w64, int_shr}
use Rattle.gimple_ir.specs.declared.scalar.Scalar.{Scalar}
use Rattle.gimple_ir.specs.declared.scalar.Mode.{Mode}
use Rattle.gimple_ir.specs.declared.scalar.Op.{Op}
use Rattle.gimple_ir.specs.declared.scalar.Op.TheVariants.{Add, Sub, Mul, Div, Rem, And, Or, Xor, Shl, Shr}
use Rattle.gimple_ir.specs.declared.scalar.Cmp.{Cmp}
use Rattle.gimple_ir.specs.declared.scalar.Cmp.TheVariants.{Eq, Ne}
use Rattle.gimple_ir.specs.declared.value.TrapKind.{TrapKind}
use Rattle.gimple_core.specs.Operators.{is_signed, modulus_of, low_bits, wrapped, is_count, op_of, cmp_of}
use Rattle.value_domain.specs.declared.bits.Bits.{Bits}
use Rattle.value_domain.specs.Bitmasks.{and_known, or_known, xor_known, conflict}

abbrev pub unknown_bits : Bits
unknown_bits = record { mask = 0; value = 0 }

-- all bits of a number of the scalar
abbrev pub exact_bits : Scalar → ℤ → Bits
exact_bits scalar z = record { mask = modulus_of scalar - 1; value = low_bits scalar z }

-- the number whose bits are all known
abbrev pub number_of : Scalar → Bits → Option ℤ
number_of scalar b = if b.mask == modulus_of scalar - 1 then Some (wrapped scalar (pos b.value)) else None

-- how many low bits are known on both sides without a gap
abbrev pub low_known : Bits → Bits → ℕ
low_known a b = trailing_ones w64 (bit_and a.mask b.mask)

-- the low t bits of a number
abbrev pub low_exact : ℕ → ℕ → Bits
low_exact t n = record { mask = 2 ^ t - 1; value = n % 2 ^ t }

abbrev pub low_sum : Bits → Bits → Bits
low_sum a b = low_exact (low_known a b) (a.value + b.value)

abbrev pub low_difference : Bits → Bits → Bits
low_difference a b = low_exact (low_known a b) (a.value + (2 ^ 64 - b.value))

abbrev pub low_product : Bits → Bits → Bits
low_product a b = low_exact (low_known a b) (a.value * b.value)

-- all bits of a result, and none of a trap
abbrev pub result_bits : Scalar → Result ℤ TrapKind → Bits
result_bits scalar (Ok z) = exact_bits scalar z
result_bits scalar (Err kind) = unknown_bits

abbrev pub both_known : Option ℤ → Option ℤ → (ℤ → ℤ → Bits) → Bits
both_known (Some z) (Some w) f = f z w
both_known (Some z) None f = unknown_bits
both_known None w f = unknown_bits

-- all bits of a quotient or remainder of numbers that are known
abbrev pub divided_bits : Mode → Op → Scalar → Bits → Bits → Bits
divided_bits mode op scalar a b = both_known (number_of scalar a) (number_of scalar b) (λ z w. result_bits scalar (op_of mode op scalar z w))

-- the known bits of a number with those above its scalar: zeros of an unsigned one, of a signed one its sign bit
abbrev pub mask_above : Scalar → Bits → ℤ
mask_above scalar b = if is_signed scalar then wrapped scalar (pos b.mask) else pos b.mask -ℤ pos (modulus_of scalar)

abbrev pub value_above : Scalar → Bits → ℤ
value_above scalar b = wrapped scalar (pos b.value)

abbrev pub shifted_left : Scalar → Bits → ℕ → Bits
shifted_left scalar a k = record { mask = (a.mask * 2 ^ k + (2 ^ k - 1)) % modulus_of scalar; value = a.value * 2 ^ k % modulus_of scalar }

abbrev pub shifted_right : Scalar → Bits → ℕ → Bits
shifted_right scalar a k = record { mask = low_bits scalar (int_shr (mask_above scalar a) k); value = low_bits scalar (int_shr (value_above scalar a) k) }

-- the bits shifted by a count that is known and lawful
abbrev pub if_count : Scalar → Option ℤ → (ℕ → Bits) → Bits
if_count scalar None f = unknown_bits
if_count scalar (Some z) f = if is_count scalar z then f (unsigned_abs z) else unknown_bits

-- a count that is known and lawful
abbrev pub IsKnownCount : Scalar → Option ℤ → Option ℕ → Type 0
IsKnownCount scalar n None = (f : ℕ → Bits) → if_count scalar n f ≡ unknown_bits
IsKnownCount scalar n (Some k) = ((f : ℕ → Bits) → if_count scalar n f ≡ f k) × (k < 64)

abbrev pub op_bits : Mode → Op → Scalar → Scalar → Bits → Bits → Bits
op_bits mode Add scalar other a b = low_sum a b
op_bits mode Sub scalar other a b = low_difference a b
op_bits mode Mul scalar other a b = low_product a b
op_bits mode Div scalar other a b = divided_bits mode Div scalar a b
op_bits mode Rem scalar other a b = divided_bits mode Rem scalar a b
op_bits mode And scalar other a b = and_known a b
op_bits mode Or scalar other a b = or_known a b
op_bits mode Xor scalar other a b = xor_known a b
op_bits mode Shl scalar other a b = if_count scalar (number_of other b) (λ k. shifted_left scalar a k)
op_bits mode Shr scalar other a b = if_count scalar (number_of other b) (λ k. shifted_right scalar a k)

-- ---- comparisons
abbrev pub truth : Bool → ℤ
truth true = pos 1
truth false = pos 0

abbrev pub exact_truth : Scalar → Bool → Bits
exact_truth target b = exact_bits target (truth b)

-- all bits but the lowest are 0
abbrev pub some_truth : Scalar → Bits
some_truth target = record { mask = modulus_of target - 2; value = 0 }

-- a bit that is known on both sides and differs decides `==` and `!=`
abbrev pub apart_result : Cmp → Option Bool
apart_result Eq = Some false
apart_result Ne = Some true
apart_result cmp = None

abbrev pub unless_apart : Scalar → Option Bool → Bool → Bits → Bits
unless_apart target (Some b) true x = exact_truth target b
unless_apart target (Some b) false x = x
unless_apart target None apart x = x

-- numbers that are known are compared
abbrev pub compared_bits : Scalar → Cmp → Option ℤ → Option ℤ → Bits
compared_bits target cmp (Some z) (Some w) = exact_truth target (cmp_of cmp z w)
compared_bits target cmp (Some z) None = some_truth target
compared_bits target cmp None w = some_truth target

abbrev pub cmp_bits : Scalar → Cmp → Scalar → Bits → Bits → Bits
cmp_bits target cmp scalar a b = unless_apart target (apart_result cmp) (not (conflict a b == 0)) (compared_bits target cmp (number_of scalar a) (number_of scalar b))

-- ---- conversions
abbrev pub converted_bits : Scalar → Scalar → Bits → Bits
converted_bits target source a = record { mask = low_bits target (mask_above source a); value = low_bits target (value_above source a) }
