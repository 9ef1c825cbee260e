-- What the operators do, on whole numbers.
use Rattle.std.specs.Prelude.{ℕ, ◌-◌, ◌*◌, ◌%◌, ◌^◌, ◌==◌, ◌≤ℤ◌, ◌<ℤ◌, ℤ, pos, ◌+ℤ◌, ◌-ℤ◌, ◌*ℤ◌, Bool, true, false, ◌&&◌, not, if◌then◌else◌, int_le, int_lt, int_div, int_rem, unsigned_abs, bit_and, bit_or, bit_xor, Result, Ok, Err, IsTrue}
use Rattle.std.specs.Int.{int_rem_euclid, int_shr}
use Rattle.gimple_ir.specs.declared.scalar.Scalar.{Scalar}
use Rattle.gimple_ir.specs.declared.scalar.Scalar.TheVariants.{I8, I16, I32, I64, U8, U16, U32, U64, Ptr}
use Rattle.gimple_ir.specs.declared.scalar.Mode.{Mode}
use Rattle.gimple_ir.specs.declared.scalar.Mode.TheVariants.{Trap, Wrap}
use Rattle.gimple_ir.specs.declared.scalar.Op.{Op}
use Rattle.gimple_ir.specs.declared.scalar.Op.TheVariants.{Add, Sub, Mul, Div, Rem, And, Or, Xor, Shl, Shr}
use Rattle.gimple_ir.specs.declared.scalar.Cmp.{Cmp}
use Rattle.gimple_ir.specs.declared.scalar.Cmp.TheVariants.{Eq, Ne, Lt, Le, Gt, Ge}
use Rattle.gimple_ir.specs.declared.value.TrapKind.{TrapKind}
use Rattle.gimple_ir.specs.declared.value.TrapKind.TheVariants.{Overflow, Divide, Shift}

-- how many bits a scalar has
abbrev pub bits_of : Scalar → ℕ
bits_of I8 = 8
bits_of I16 = 16
bits_of I32 = 32
bits_of I64 = 64
bits_of U8 = 8
bits_of U16 = 16
bits_of U32 = 32
bits_of U64 = 64
bits_of Ptr = 64

abbrev pub is_signed : Scalar → Bool
is_signed I8 = true
is_signed I16 = true
is_signed I32 = true
is_signed I64 = true
is_signed U8 = false
is_signed U16 = false
is_signed U32 = false
is_signed U64 = false
is_signed Ptr = false

abbrev pub modulus_of : Scalar → ℕ
modulus_of scalar = 2 ^ bits_of scalar

abbrev pub half_of : Scalar → ℕ
half_of scalar = 2 ^ (bits_of scalar - 1)

-- the ends of a scalar's range
abbrev pub least_of : Scalar → ℤ
least_of scalar = if is_signed scalar then pos 0 -ℤ pos (half_of scalar) else pos 0

abbrev pub greatest_of : Scalar → ℤ
greatest_of scalar = if is_signed scalar then pos (half_of scalar - 1) else pos (modulus_of scalar - 1)

abbrev pub in_scalar : Scalar → ℤ → Bool
in_scalar scalar z = int_le (least_of scalar) z && int_le z (greatest_of scalar)

-- a number of some integer scalar
pub record IsWord (z : ℤ) : Type 0 where
  pub low : (pos 0 -ℤ pos (2 ^ 63)) ≤ℤ z
  pub high : z <ℤ pos (2 ^ 64)

-- a number of some signed scalar
pub record IsSignedWord (z : ℤ) : Type 0 where
  pub low : (pos 0 -ℤ pos (2 ^ 63)) ≤ℤ z
  pub high : z <ℤ pos (2 ^ 63)

-- the lowest bits of a number in two's complement, as a number from 0
abbrev pub low_bits : Scalar → ℤ → ℕ
low_bits scalar z = unsigned_abs (int_rem_euclid z (pos (modulus_of scalar)))

-- the number of the scalar with these bits
abbrev pub of_bits : Scalar → ℕ → ℤ
of_bits scalar n = if is_signed scalar && not (int_lt (pos n) (pos (half_of scalar))) then pos n -ℤ pos (modulus_of scalar) else pos n

-- a number wrapped into the scalar
unfoldable pub wrapped : Scalar → ℤ → ℤ
wrapped scalar z = of_bits scalar (low_bits scalar z)

-- a result, or a trap where it lies outside its scalar
abbrev pub within : Scalar → ℤ → Result ℤ TrapKind
within scalar z = if in_scalar scalar z then Ok z else Err Overflow

-- a result of a sum, difference or product: outside its scalar it traps where the scalar is signed and the mode traps, else it wraps
abbrev pub kept : Mode → Scalar → ℤ → Result ℤ TrapKind
kept Trap scalar z = if is_signed scalar then within scalar z else Ok (wrapped scalar z)
kept Wrap scalar z = Ok (wrapped scalar z)

-- a result, unless the test fails
abbrev pub unless_not : Bool → TrapKind → Result ℤ TrapKind → Result ℤ TrapKind
unless_not test kind value = if test then value else Err kind

abbrev pub is_count : Scalar → ℤ → Bool
is_count scalar z = int_le (pos 0) z && int_lt z (pos (bits_of scalar))

-- an operator on two numbers; the mode is that of sums, differences and products
unfoldable pub op_of : Mode → Op → Scalar → ℤ → ℤ → Result ℤ TrapKind
op_of mode Add scalar l r = kept mode scalar (l +ℤ r)
op_of mode Sub scalar l r = kept mode scalar (l -ℤ r)
op_of mode Mul scalar l r = kept mode scalar (l *ℤ r)
op_of mode Div scalar l r = unless_not (not (unsigned_abs r == 0)) Divide (within scalar (int_div l r))
op_of mode Rem scalar l r = unless_not (not (unsigned_abs r == 0)) Divide (unless_not (in_scalar scalar (int_div l r)) Overflow (Ok (int_rem l r)))
op_of mode And scalar l r = Ok (of_bits scalar (bit_and (low_bits scalar l) (low_bits scalar r)))
op_of mode Or scalar l r = Ok (of_bits scalar (bit_or (low_bits scalar l) (low_bits scalar r)))
op_of mode Xor scalar l r = Ok (of_bits scalar (bit_xor (low_bits scalar l) (low_bits scalar r)))
op_of mode Shl scalar l r = unless_not (is_count scalar r) Shift (Ok (of_bits scalar (low_bits scalar l * 2 ^ unsigned_abs r % modulus_of scalar)))
op_of mode Shr scalar l r = unless_not (is_count scalar r) Shift (Ok (int_shr l (unsigned_abs r)))

-- a comparison of two numbers
abbrev pub cmp_of : Cmp → ℤ → ℤ → Bool
cmp_of Eq l r = int_le l r && int_le r l
cmp_of Ne l r = not (int_le l r && int_le r l)
cmp_of Lt l r = int_lt l r
cmp_of Le l r = int_le l r
cmp_of Gt l r = int_lt r l
cmp_of Ge l r = int_le r l

-- what an operator asks of its right side: a number of the scalar, or for a shift one of any integer scalar
abbrev pub IsRightSide : Op → Scalar → ℤ → Type 0
IsRightSide Shl scalar z = IsWord z
IsRightSide Shr scalar z = IsWord z
IsRightSide op scalar z = IsTrue (in_scalar scalar z)
