-- The results of operators on constants, and sets of results.
use Rattle.std.specs.Prelude.{ℕ, ◌==◌, ℤ, ◌+ℤ◌, Bool, true, false, not, ◌&&◌, int_le, if◌then◌else◌, List, [], ◌∷◌, Option, Some, None, Result, Ok, Err}
use Rattle.gimple_ir.specs.declared.scalar.Scalar.{Scalar}
use Rattle.gimple_ir.specs.declared.scalar.Scalar.TheVariants.{I64}
use Rattle.gimple_ir.specs.declared.scalar.Mode.{Mode}
use Rattle.gimple_ir.specs.declared.scalar.Op.{Op}
use Rattle.gimple_ir.specs.declared.scalar.Op.TheVariants.{Shl, Shr}
use Rattle.gimple_ir.specs.declared.scalar.Cmp.{Cmp}
use Rattle.gimple_ir.specs.declared.value.TrapKind.{TrapKind}
use Rattle.gimple_ir.specs.declared.value.Constant.{Constant}
use Rattle.gimple_ir.specs.declared.value.Constant.TheVariants.{Int, Null, Global}
use Rattle.gimple_core.specs.Operators.{in_scalar, wrapped, op_of, cmp_of}
use Rattle.gimple_core.specs.Run.{pointers_compare}
use Rattle.gimple_core.specs.Statements.{is_pointer}
use Rattle.lattice_parts.specs.Sets.{gathered, mapped, kept_members}
use Rattle.value_domain.specs.declared.vals.Vals.{Vals}
use Rattle.value_domain.specs.declared.vals.Vals.TheVariants.{Any, Nothing, Among}
use Rattle.value_domain.specs.Constants.{before}
use Rattle.value_domain.specs.BitOperators.{truth}
use Rattle.value_domain.specs.RangeOperators.{lowest, highest}
use Rattle.value_domain.specs.Values.{vals_capped}

-- whether a constant is a value of the scalar
abbrev pub constant_in : Scalar → Constant → Bool
constant_in scalar (Int z) = not (is_pointer scalar) && in_scalar scalar z
constant_in scalar c = is_pointer scalar

-- a number of some integer scalar
abbrev pub in_word : ℤ → Bool
in_word z = int_le lowest z && int_le z highest

-- a number that may stand on the right of an operator: for a shift it is one of any integer scalar
abbrev pub may_stand_right : Op → Scalar → ℤ → Bool
may_stand_right Shl scalar z = in_word z
may_stand_right Shr scalar z = in_word z
may_stand_right op scalar z = in_scalar scalar z

abbrev pub number_result : Result ℤ TrapKind → Option Constant
number_result (Ok z) = Some (Int z)
number_result (Err kind) = None

abbrev pub op_numbers : Mode → Op → Scalar → ℤ → ℤ → Option Constant
op_numbers mode op scalar z w = if in_scalar scalar z && may_stand_right op scalar w then number_result (op_of mode op scalar z w) else None

-- a pointer moved by a number of bytes
abbrev pub moved_constant : Constant → Constant → Option Constant
moved_constant Null d = Some Null
moved_constant (Global k o) (Int n) = if in_scalar I64 n then Some (Global k (wrapped I64 (o +ℤ n))) else None
moved_constant c d = None

abbrev pub number_constants : Mode → Op → Scalar → Constant → Constant → Option Constant
number_constants mode op scalar (Int z) (Int w) = op_numbers mode op scalar z w
number_constants mode op scalar c d = None

-- the result of an operator, or None where it traps
abbrev pub op_constant : Mode → Op → Scalar → Constant → Constant → Option Constant
op_constant mode op scalar c d = if is_pointer scalar then moved_constant c d else number_constants mode op scalar c d

abbrev pub same_constant : Constant → Constant → Bool
same_constant Null Null = true
same_constant (Global k o) (Global j p) = (k == j) && (int_le o p && int_le p o)
same_constant c d = false

abbrev pub compared_constants : Cmp → Constant → Constant → Bool
compared_constants cmp (Int z) (Int w) = cmp_of cmp z w
compared_constants cmp c d = pointers_compare cmp (same_constant c d)

abbrev pub cmp_constant : Cmp → Constant → Constant → Option Constant
cmp_constant cmp c d = Some (Int (truth (compared_constants cmp c d)))

abbrev pub convert_constant : Scalar → Constant → Option Constant
convert_constant target (Int z) = Some (Int (wrapped target z))
convert_constant target c = None

-- ---- sets of results
-- the set of these constants: none has its own form, and a larger set is any
abbrev pub vals_of : ℕ → List Constant → Vals
vals_of limit [] = Nothing
vals_of limit (c ∷ cs) = vals_capped limit (c ∷ cs)

-- the results of all pairs that have one, or any where a side is any
abbrev pub pairs_vals : ℕ → (Constant → Constant → Option Constant) → Vals → Vals → Vals
pairs_vals limit f (Among l xs) (Among m ys) = vals_of limit (gathered before f xs ys [])
pairs_vals limit f a b = Any

abbrev pub mapped_vals : ℕ → (Constant → Option Constant) → Vals → Vals
mapped_vals limit g (Among l xs) = vals_of limit (mapped before g xs [])
mapped_vals limit g a = Any

-- the constants that pass a test
abbrev pub kept_vals : (Constant → Bool) → Vals → Vals
kept_vals p (Among limit cs) = vals_of limit (kept_members p cs)
kept_vals p a = a
