-- The operators on abstract values.
use Rattle.std.specs.Prelude.{ℕ, ◌%◌, ℤ, pos, negsuc, Bool, true, false, not, ◌&&◌, ◌||◌, int_le, int_lt, if◌then◌else◌, List, [], ◌∷◌, Option, Some, None, Result, Ok, Err}
use Rattle.gimple_ir.specs.declared.scalar.Scalar.{Scalar}
use Rattle.gimple_ir.specs.declared.scalar.Mode.{Mode}
use Rattle.gimple_ir.specs.declared.scalar.Op.{Op}
use Rattle.gimple_ir.specs.declared.scalar.Op.TheVariants.{Add, Sub, Mul, Div, Rem, And, Or, Xor, Shl, Shr}
use Rattle.gimple_ir.specs.declared.scalar.Cmp.{Cmp}
use Rattle.gimple_ir.specs.declared.scalar.Cmp.TheVariants.{Eq, Ne}
use Rattle.gimple_ir.specs.declared.value.TrapKind.{TrapKind}
use Rattle.gimple_ir.specs.declared.value.Constant.{Constant}
use Rattle.gimple_ir.specs.declared.value.Constant.TheVariants.{Int}
use Rattle.gimple_core.specs.Operators.{is_signed, bits_of, modulus_of, in_scalar, least_of, op_of}
use Rattle.gimple_core.specs.Statements.{is_pointer}
use Rattle.lattice_parts.specs.Sets.{has_by, same_by}
use Rattle.value_domain.specs.declared.bits.Bits.{Bits}
use Rattle.value_domain.specs.declared.range.Range.{Range}
use Rattle.value_domain.specs.declared.vals.Vals.{Vals}
use Rattle.value_domain.specs.declared.vals.Vals.TheVariants.{Any, Nothing, Among}
use Rattle.value_domain.specs.declared.abs_val.AbsVal.{AbsVal}
use Rattle.value_domain.specs.Constants.{before}
use Rattle.value_domain.specs.Bitmasks.{bits_met}
use Rattle.value_domain.specs.Ranges.{meet_range, sum_range, difference_range, product_range}
use Rattle.value_domain.specs.BitOperators.{unknown_bits, exact_bits, op_bits, some_truth, cmp_bits, converted_bits, number_of}
use Rattle.value_domain.specs.RangeOperators.{type_range, rounded, rounded_each, op_range, cmp_range, convert_range, allowed, traps_outside}
use Rattle.value_domain.specs.ConstantOperators.{constant_in, may_stand_right, op_constant, cmp_constant, convert_constant, pairs_vals, mapped_vals, kept_vals}
use Rattle.value_domain.specs.Values.{none_val, is_none_val, vals_capped}

-- a value of its parts; where one is empty, the whole is none
abbrev pub assembled : Vals → Option Bits → Option Range → AbsVal
assembled Nothing b r = none_val
assembled v None r = none_val
assembled v (Some b) None = none_val
assembled v (Some b) (Some r) = record { vals = v; bits = b; range = r }

-- none on a side gives none
abbrev pub unless_none : AbsVal → AbsVal → AbsVal → AbsVal
unless_none a b x = if is_none_val a then none_val else (if is_none_val b then none_val else x)

-- of a pointer the bits and the interval say nothing
abbrev pub zero_range : Range
zero_range = record { low = pos 0; high = pos 0 }

abbrev pub span_of : Scalar → Range
span_of scalar = if is_pointer scalar then zero_range else type_range scalar

abbrev pub top_of : Scalar → AbsVal
top_of scalar = record { vals = Any; bits = unknown_bits; range = span_of scalar }

-- ---- one constant
abbrev pub bits_alone : Scalar → Constant → Bits
bits_alone scalar (Int z) = exact_bits scalar z
bits_alone scalar c = unknown_bits

abbrev pub range_alone : List ℤ → Constant → Range
range_alone ts (Int z) = rounded ts (record { low = z; high = z })
range_alone ts c = zero_range

-- what holds a constant of the scalar, and nothing where it is none of it
unfoldable pub exactly_of : Scalar → ℕ → List ℤ → Constant → AbsVal
exactly_of scalar most ts c = if constant_in scalar c then record { vals = vals_capped most (c ∷ []); bits = bits_alone scalar c; range = range_alone ts c } else none_val

-- ---- arithmetic
abbrev pub bits_under : Mode → Op → Scalar → Scalar → Bits → Bits → Bits
bits_under mode op scalar other a b = if is_pointer scalar then unknown_bits else op_bits mode op scalar other a b

abbrev pub range_under : Mode → Op → Scalar → List ℤ → Range → Range → Option Range
range_under mode op scalar ts r s = if is_pointer scalar then Some zero_range else rounded_each ts (op_range mode op scalar r s)

-- an operator, with the limit of constants and the thresholds
unfoldable pub abs_op_of : Mode → Op → Scalar → Scalar → ℕ → List ℤ → AbsVal → AbsVal → AbsVal
abs_op_of mode op scalar other most ts a b =
    unless_none a b (assembled (pairs_vals most (op_constant mode op scalar) a.vals b.vals) (Some (bits_under mode op scalar other a.bits b.bits)) (range_under mode op scalar ts a.range b.range))

-- ---- comparison; 0 and 1 are thresholds
abbrev pub either_range : Range
either_range = record { low = pos 0; high = pos 1 }

abbrev pub bits_compared : Scalar → Cmp → Scalar → Bits → Bits → Bits
bits_compared target cmp scalar a b = if is_pointer scalar then some_truth target else cmp_bits target cmp scalar a b

abbrev pub range_compared : Cmp → Scalar → Range → Range → Range
range_compared cmp scalar r s = if is_pointer scalar then either_range else cmp_range cmp r s

unfoldable pub abs_cmp_of : Scalar → Cmp → Scalar → ℕ → AbsVal → AbsVal → AbsVal
abs_cmp_of target cmp scalar most a b =
    unless_none a b (assembled (pairs_vals most (cmp_constant cmp) a.vals b.vals) (Some (bits_compared target cmp scalar a.bits b.bits)) (Some (range_compared cmp scalar a.range b.range)))

-- ---- conversion
unfoldable pub abs_convert_of : Scalar → Scalar → ℕ → List ℤ → AbsVal → AbsVal
abs_convert_of target source most ts a =
    if is_none_val a then none_val
    else assembled (mapped_vals most (convert_constant target) a.vals) (Some (converted_bits target source a.bits)) (Some (rounded ts (convert_range target a.range)))

-- ---- meet
abbrev pub vals_met : Vals → Vals → Vals
vals_met a Any = a
vals_met Any (Among limit cs) = Among limit cs
vals_met Any Nothing = Nothing
vals_met Nothing b = Nothing
vals_met (Among limit xs) Nothing = Nothing
vals_met (Among limit xs) (Among most ys) = kept_vals (λ c. has_by before c ys) (Among limit xs)

unfoldable pub abs_met : AbsVal → AbsVal → AbsVal
abs_met a b = unless_none a b (assembled (vals_met a.vals b.vals) (bits_met a.bits b.bits) (meet_range a.range b.range))

-- ---- taken comparisons
abbrev pub lies_in : Range → Constant → Bool
lies_in r (Int z) = int_le r.low z && int_le z r.high
lies_in r c = false

abbrev pub single_of : Vals → Option Constant
single_of (Among limit (c ∷ [])) = Some c
single_of v = None

abbrev pub left_without : Option Constant → Vals → Vals
left_without (Some c) a = kept_vals (λ d. not (same_by before d c)) a
left_without None a = a

-- one constant leaves a finite set
abbrev pub vals_without : Vals → Vals → Vals
vals_without a b = left_without (single_of b) a

abbrev pub ordered_left : Cmp → List ℤ → AbsVal → AbsVal → AbsVal
ordered_left cmp ts a b = assembled (kept_vals (lies_in (allowed cmp b.range)) a.vals) (Some a.bits) (rounded_each ts (meet_range (allowed cmp b.range) a.range))

abbrev pub refined_proper : Cmp → List ℤ → AbsVal → AbsVal → AbsVal
refined_proper Eq ts a b = abs_met a b
refined_proper Ne ts a b = assembled (vals_without a.vals b.vals) (Some a.bits) (Some a.range)
refined_proper cmp ts a b = ordered_left cmp ts a b

-- what is left of a where `a cmp b` is taken
unfoldable pub refined_of : Cmp → List ℤ → AbsVal → AbsVal → AbsVal
refined_of cmp ts a b = unless_none a b (refined_proper cmp ts a b)

-- ---- one constant
abbrev pub number_constant : Option ℤ → Option Constant → Option Constant
number_constant (Some z) c = Some (Int z)
number_constant None c = c

abbrev pub range_constant : Range → Option Constant
range_constant r = if int_le r.low r.high && int_le r.high r.low then Some (Int r.low) else None

abbrev pub first_constant : Option Constant → Option Constant → Option Constant
first_constant (Some c) d = Some c
first_constant None d = d

-- the one constant of the set, else the number whose bits are all known, else the one number of the interval
unfoldable pub known_of : Scalar → AbsVal → Option Constant
known_of scalar a = first_constant (single_of a.vals) (if is_pointer scalar then None else number_constant (number_of scalar a.bits) (range_constant a.range))

-- ---- traps
abbrev pub is_trap : Result ℤ TrapKind → Bool
is_trap (Ok z) = false
is_trap (Err kind) = true

abbrev pub pair_traps : Mode → Op → Scalar → Constant → Constant → Bool
pair_traps mode op scalar (Int z) (Int w) = not (is_pointer scalar) && ((in_scalar scalar z && may_stand_right op scalar w) && is_trap (op_of mode op scalar z w))
pair_traps mode op scalar c d = false

abbrev pub row_traps_of : Mode → Op → Scalar → Constant → List Constant → Bool
row_traps_of mode op scalar c [] = false
row_traps_of mode op scalar c (d ∷ ds) = pair_traps mode op scalar c d || row_traps_of mode op scalar c ds

abbrev pub some_traps : Mode → Op → Scalar → List Constant → List Constant → Bool
some_traps mode op scalar [] ds = false
some_traps mode op scalar (c ∷ cs) ds = row_traps_of mode op scalar c ds || some_traps mode op scalar cs ds

abbrev pub vals_trap : Mode → Op → Scalar → Vals → Vals → Bool
vals_trap mode op scalar Any b = true
vals_trap mode op scalar a Any = true
vals_trap mode op scalar Nothing b = false
vals_trap mode op scalar a Nothing = false
vals_trap mode op scalar (Among l cs) (Among m ds) = some_traps mode op scalar cs ds

abbrev pub lies_outside : Range → Option Range → Bool
lies_outside t None = false
lies_outside t (Some r) = not (int_le t.low r.low && int_le r.high t.high)

abbrev pub has_number : ℤ → Range → Bool
has_number z r = int_le r.low z && int_le z r.high

abbrev pub division_traps : Scalar → Range → Range → Bool
division_traps scalar r s = has_number (pos 0) s || (is_signed scalar && (int_le r.low (least_of scalar) && has_number (negsuc 0) s))

abbrev pub count_traps : Scalar → Range → Bool
count_traps scalar s = not (int_le (pos 0) s.low && int_lt s.high (pos (bits_of scalar)))

-- whether the intervals leave a trap open
abbrev pub range_traps : Mode → Op → Scalar → Range → Range → Bool
range_traps mode Add scalar r s = traps_outside mode scalar && lies_outside (type_range scalar) (sum_range r s)
range_traps mode Sub scalar r s = traps_outside mode scalar && lies_outside (type_range scalar) (difference_range r s)
range_traps mode Mul scalar r s = traps_outside mode scalar && lies_outside (type_range scalar) (product_range r s)
range_traps mode Div scalar r s = division_traps scalar r s
range_traps mode Rem scalar r s = division_traps scalar r s
range_traps mode And scalar r s = false
range_traps mode Or scalar r s = false
range_traps mode Xor scalar r s = false
range_traps mode Shl scalar r s = count_traps scalar s
range_traps mode Shr scalar r s = count_traps scalar s

unfoldable pub may_trap_of : Mode → Op → Scalar → AbsVal → AbsVal → Bool
may_trap_of mode op scalar a b = not (is_pointer scalar) && (vals_trap mode op scalar a.vals b.vals && range_traps mode op scalar a.range b.range)

-- ---- bringing into a scalar
abbrev pub bits_in : Scalar → Bits → Bits
bits_in scalar b = if is_pointer scalar then unknown_bits else record { mask = b.mask % modulus_of scalar; value = b.value % modulus_of scalar }

abbrev pub range_in : Scalar → Range → Option Range
range_in scalar r = if is_pointer scalar then Some zero_range else meet_range (type_range scalar) r

unfoldable pub brought_into : Scalar → AbsVal → AbsVal
brought_into scalar a =
    if is_none_val a then none_val
    else assembled (kept_vals (constant_in scalar) a.vals) (Some (bits_in scalar a.bits)) (range_in scalar a.range)
