-- The results of operators lie in their scalars.
use Rattle.std.proofs.Common.{◌≡◌, ℕ, zero, suc, ◌*◌, ◌/◌, ◌%◌, ◌^◌, ◌<◌, ◌≤◌, ℤ, pos, negsuc, neg_ℤ, ◌+ℤ◌, ◌-ℤ◌, ◌*ℤ◌, Bool, true, false, refl, sym, subst, arith, Result, Ok, Err, if◌then◌else◌, unsigned_abs, int_div, int_rem}
use Rattle.std.specs.Int.{int_shr}
use Rattle.std.specs.Int.Bits.{and_lt}
use Rattle.std.proofs.lemmas.Int.{ints}
use Rattle.std.proofs.lemmas.Nat.{pow_pos, or_lt, xor_lt}
use Rattle.std.proofs.Math.Nat.{mod-le, mod-lt, div-le_self}
use Rattle.gimple_ir.specs.declared.scalar.Scalar.{Scalar}
use Rattle.gimple_ir.specs.declared.scalar.Mode.{Mode}
use Rattle.gimple_ir.specs.declared.scalar.Mode.TheVariants.{Trap, Wrap}
use Rattle.gimple_ir.specs.declared.scalar.Scalar.TheVariants.{I8, I16, I32, I64, U8, U16, U32, U64, Ptr}
use Rattle.gimple_ir.specs.declared.scalar.Op.{Op}
use Rattle.gimple_ir.specs.declared.scalar.Op.TheVariants.{Add, Sub, Mul, Div, Rem, And, Or, Xor, Shl, Shr}
use Rattle.gimple_ir.specs.declared.value.TrapKind.{TrapKind}
use Rattle.gimple_ir.specs.declared.value.TrapKind.TheVariants.{Overflow, Divide, Shift}
use Rattle.gimple_core.specs.Operators.{bits_of, is_signed, modulus_of, half_of, in_scalar, low_bits, of_bits, wrapped, within, kept, unless_not, is_count, op_of}

-- one more than the greatest number of a scalar
abbrev pub limit_of : Scalar → ℕ
limit_of scalar = if is_signed scalar then half_of scalar else modulus_of scalar

pub pos_in : (scalar : Scalar) (n : ℕ) → n < limit_of scalar → in_scalar scalar (pos n) ≡ true
pos_in I8 n h = grind (arith, ints)
pos_in I16 n h = grind (arith, ints)
pos_in I32 n h = grind (arith, ints)
pos_in I64 n h = grind (arith, ints)
pos_in U8 n h = grind (arith, ints)
pos_in U16 n h = grind (arith, ints)
pos_in U32 n h = grind (arith, ints)
pos_in U64 n h = grind (arith, ints)
pos_in Ptr n h = grind (arith, ints)

pub neg_in : (scalar : Scalar) (n : ℕ) → is_signed scalar ≡ true → n < half_of scalar → in_scalar scalar (negsuc n) ≡ true
neg_in I8 n e h = grind (arith, ints)
neg_in I16 n e h = grind (arith, ints)
neg_in I32 n e h = grind (arith, ints)
neg_in I64 n e h = grind (arith, ints)
neg_in U8 n e h = cc
neg_in U16 n e h = cc
neg_in U32 n e h = cc
neg_in U64 n e h = cc
neg_in Ptr n e h = cc

pub in_pos : (scalar : Scalar) (n : ℕ) → in_scalar scalar (pos n) ≡ true → n < limit_of scalar
in_pos I8 n h = grind (arith, ints)
in_pos I16 n h = grind (arith, ints)
in_pos I32 n h = grind (arith, ints)
in_pos I64 n h = grind (arith, ints)
in_pos U8 n h = grind (arith, ints)
in_pos U16 n h = grind (arith, ints)
in_pos U32 n h = grind (arith, ints)
in_pos U64 n h = grind (arith, ints)
in_pos Ptr n h = grind (arith, ints)

pub in_neg : (scalar : Scalar) (n : ℕ) → in_scalar scalar (negsuc n) ≡ true → (is_signed scalar ≡ true) × (n < half_of scalar)
in_neg I8 n h = (refl, grind (arith, ints))
in_neg I16 n h = (refl, grind (arith, ints))
in_neg I32 n h = (refl, grind (arith, ints))
in_neg I64 n h = (refl, grind (arith, ints))
in_neg U8 n h = cc
in_neg U16 n h = cc
in_neg U32 n h = cc
in_neg U64 n h = cc
in_neg Ptr n h = cc

-- bits of a scalar are a number of it
pub of_bits_in : (scalar : Scalar) (n : ℕ) → n < modulus_of scalar → in_scalar scalar (of_bits scalar n) ≡ true
of_bits_in I8 n h = grind (arith, ints)
of_bits_in I16 n h = grind (arith, ints)
of_bits_in I32 n h = grind (arith, ints)
of_bits_in I64 n h = grind (arith, ints)
of_bits_in U8 n h = pos_in U8 n h
of_bits_in U16 n h = pos_in U16 n h
of_bits_in U32 n h = pos_in U32 n h
of_bits_in U64 n h = pos_in U64 n h
of_bits_in Ptr n h = pos_in Ptr n h

low_below : (scalar : Scalar) (z : ℤ) → low_bits scalar z < modulus_of scalar
low_below scalar (pos a) = mod-lt a (pow_pos (bits_of scalar))
low_below scalar (negsuc a) = let some : 0 < 2 ^ bits_of scalar = pow_pos (bits_of scalar) in omega (arith, some)

pub wrapped_in : (scalar : Scalar) (z : ℤ) → in_scalar scalar (wrapped scalar z) ≡ true
unfolding wrapped
wrapped_in scalar z = of_bits_in scalar (low_bits scalar z) (low_below scalar z)

-- ---- each operator

-- where a result is, it lies in the scalar
abbrev ResultIn : Scalar → Result ℤ TrapKind → Type 0
ResultIn scalar (Ok z) = in_scalar scalar z ≡ true
ResultIn scalar (Err kind) = Unit {0}

within_by : (scalar : Scalar) (z : ℤ) (fits : Bool) → in_scalar scalar z ≡ fits → ResultIn scalar (if fits then Ok z else Err Overflow)
within_by scalar z true e = e
within_by scalar z false e = tt

within_in : (scalar : Scalar) (z : ℤ) → ResultIn scalar (within scalar z)
within_in scalar z = within_by scalar z (in_scalar scalar z) refl

kept_by : (scalar : Scalar) (z : ℤ) (signed : Bool) → ResultIn scalar (if signed then within scalar z else Ok (wrapped scalar z))
kept_by scalar z true = within_in scalar z
kept_by scalar z false = wrapped_in scalar z

kept_in : (mode : Mode) (scalar : Scalar) (z : ℤ) → ResultIn scalar (kept mode scalar z)
kept_in Trap scalar z = kept_by scalar z (is_signed scalar)
kept_in Wrap scalar z = wrapped_in scalar z

unless_in : (scalar : Scalar) (b : Bool) (kind : TrapKind) (r : Result ℤ TrapKind) → ResultIn scalar r → ResultIn scalar (unless_not b kind r)
unless_in scalar true kind r h = h
unless_in scalar false kind r h = tt

negated_in : (scalar : Scalar) (m a : ℕ) → m ≤ suc a → in_scalar scalar (negsuc a) ≡ true → in_scalar scalar (neg_ℤ (pos m)) ≡ true
negated_in scalar zero a l h = let k = in_neg scalar a h in let some : a < half_of scalar = k.1 in pos_in scalar 0 (subst (λ b. 0 < (if b then half_of scalar else modulus_of scalar)) (sym k.0) (omega (arith, some)))
negated_in scalar (suc m) a l h = let k = in_neg scalar a h in let some : a < half_of scalar = k.1 in neg_in scalar m k.0 (omega (arith, some, l))

rem_in : (scalar : Scalar) (l r : ℤ) → in_scalar scalar l ≡ true → in_scalar scalar (int_rem l r) ≡ true
rem_in scalar (pos a) r h = let top : a < limit_of scalar = in_pos scalar a h in let small : a % unsigned_abs r ≤ a = mod-le a (unsigned_abs r) in pos_in scalar (a % unsigned_abs r) (omega (arith, top, small))
rem_in scalar (negsuc a) r h = negated_in scalar (suc a % unsigned_abs r) a (mod-le (suc a) (unsigned_abs r)) h

shr_in : (scalar : Scalar) (l : ℤ) (n : ℕ) → in_scalar scalar l ≡ true → in_scalar scalar (int_shr l n) ≡ true
shr_in scalar (pos a) n h = let top : a < limit_of scalar = in_pos scalar a h in let small : a / 2 ^ n ≤ a = div-le_self a (2 ^ n) in pos_in scalar (a / 2 ^ n) (omega (arith, top, small))
shr_in scalar (negsuc a) n h = let k = in_neg scalar a h in let top : a < half_of scalar = k.1 in let small : a / 2 ^ n ≤ a = div-le_self a (2 ^ n) in neg_in scalar (a / 2 ^ n) k.0 (omega (arith, top, small))

result_in : (mode : Mode) (op : Op) (scalar : Scalar) (l r : ℤ) → in_scalar scalar l ≡ true → ResultIn scalar (op_of mode op scalar l r)
unfolding op_of
result_in mode Add scalar l r h = kept_in mode scalar (l +ℤ r)
result_in mode Sub scalar l r h = kept_in mode scalar (l -ℤ r)
result_in mode Mul scalar l r h = kept_in mode scalar (l *ℤ r)
result_in mode Div scalar l r h = unless_in scalar _ Divide (within scalar (int_div l r)) (within_in scalar (int_div l r))
result_in mode Rem scalar l r h = unless_in scalar _ Divide _ (unless_in scalar (in_scalar scalar (int_div l r)) Overflow (Ok (int_rem l r)) (rem_in scalar l r h))
result_in mode And scalar l r h = of_bits_in scalar _ (and_lt (bits_of scalar) _ _ (low_below scalar l) (low_below scalar r))
result_in mode Or scalar l r h = of_bits_in scalar _ (or_lt (bits_of scalar) _ _ (low_below scalar l) (low_below scalar r))
result_in mode Xor scalar l r h = of_bits_in scalar _ (xor_lt (bits_of scalar) _ _ (low_below scalar l) (low_below scalar r))
result_in mode Shl scalar l r h = unless_in scalar (is_count scalar r) Shift (Ok (of_bits scalar (low_bits scalar l * 2 ^ unsigned_abs r % modulus_of scalar))) (of_bits_in scalar _ (mod-lt (low_bits scalar l * 2 ^ unsigned_abs r) (pow_pos (bits_of scalar))))
result_in mode Shr scalar l r h = unless_in scalar (is_count scalar r) Shift (Ok (int_shr l (unsigned_abs r))) (shr_in scalar l (unsigned_abs r) h)

-- an operator's result lies in its scalar
pub op_in : (mode : Mode) (op : Op) (scalar : Scalar) (l r z : ℤ) → in_scalar scalar l ≡ true → op_of mode op scalar l r ≡ Ok z → in_scalar scalar z ≡ true
op_in mode op scalar l r z h e = subst (ResultIn scalar) e (result_in mode op scalar l r h)
