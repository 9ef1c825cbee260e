-- Which values an abstract value holds, and which abstract values are of a scalar.
use Rattle.std.specs.Prelude.{◌≡◌, ℕ, ◌^◌, ◌<◌, ◌⊎◌, ℤ, pos, Bool, true, false, if◌then◌else◌, List, Option, Some, None}
use Rattle.gimple_ir.specs.declared.scalar.Scalar.{Scalar}
use Rattle.gimple_ir.specs.declared.scalar.Scalar.TheVariants.{I64}
use Rattle.gimple_ir.specs.declared.scalar.Op.{Op}
use Rattle.gimple_ir.specs.declared.scalar.Op.TheVariants.{Add, Shl, Shr}
use Rattle.gimple_ir.specs.declared.scalar.Cmp.{Cmp}
use Rattle.gimple_ir.specs.declared.scalar.Cmp.TheVariants.{Eq, Ne}
use Rattle.gimple_ir.specs.declared.value.Object.{Object}
use Rattle.gimple_ir.specs.declared.value.Object.TheVariants.{Global as GlobalObject, Local as LocalObject}
use Rattle.gimple_ir.specs.declared.value.Value.{Value}
use Rattle.gimple_ir.specs.declared.value.Value.TheVariants.{Int as Number, Null as NullPointer, At, Code}
use Rattle.gimple_ir.specs.declared.value.Constant.{Constant}
use Rattle.gimple_ir.specs.declared.value.Constant.TheVariants.{Int, Null, Global}
use Rattle.gimple_core.specs.Operators.{bits_of}
use Rattle.gimple_core.specs.Statements.{is_pointer}
use Rattle.lattice_parts.specs.Sets.{Has, Each}
use Rattle.value_domain.specs.declared.vals.Vals.{Vals}
use Rattle.value_domain.specs.declared.vals.Vals.TheVariants.{Any, Nothing, Among}
use Rattle.value_domain.specs.declared.abs_val.AbsVal.{AbsVal}
use Rattle.value_domain.specs.Bitmasks.{pattern, Agrees}
use Rattle.value_domain.specs.Ranges.{InRange, Within}
use Rattle.value_domain.specs.ConstantOperators.{constant_in}
use Rattle.value_domain.specs.AbsOperators.{span_of}
use Rattle.value_domain.specs.Values.{is_none_val}

-- ---- values
-- null and addresses of globals are constants, addresses of locals and functions are not
abbrev pub object_constant : Object → ℤ → Option Constant
object_constant (GlobalObject k) offset = Some (Global k offset)
object_constant (LocalObject serial k) offset = None

abbrev pub constant_of : Value → Option Constant
constant_of (Number z) = Some (Int z)
constant_of NullPointer = Some Null
constant_of (At object offset) = object_constant object offset
constant_of (Code name) = None

-- the number that bits and intervals speak of; of a pointer they say nothing, and it counts as 0
abbrev pub number_part : Value → ℤ
number_part (Number z) = z
number_part NullPointer = pos 0
number_part (At object offset) = pos 0
number_part (Code name) = pos 0

-- ---- holding
abbrev pub IsListed : Option Constant → List Constant → Type 0
IsListed None cs = ⊥
IsListed (Some c) cs = Has c cs

abbrev pub IsAmong : Option Constant → Vals → Type 0
IsAmong o Any = Unit {0}
IsAmong o Nothing = ⊥
IsAmong o (Among limit cs) = IsListed o cs

-- the value is in each part
pub record Holds (v : Value) (a : AbsVal) : Type 0 where
  pub vals : IsAmong (constant_of v) a.vals
  pub bits : Agrees (pattern (number_part v)) a.bits
  pub range : InRange (number_part v) a.range

-- ---- of a scalar
abbrev pub mask_width : Scalar → ℕ
mask_width scalar = if is_pointer scalar then 0 else bits_of scalar

abbrev pub ValsOf : Scalar → Vals → Type 0
ValsOf scalar Any = Unit {0}
ValsOf scalar Nothing = Unit {0}
ValsOf scalar (Among limit cs) = Each (λ c. constant_in scalar c ≡ true) cs

-- constants of the scalar, a mask of its width and an interval in it; for a pointer the mask is 0 and the interval [0, 0]
pub record PartsOf (scalar : Scalar) (a : AbsVal) : Type 0 where
  pub vals : ValsOf scalar a.vals
  pub mask : a.bits.mask < 2 ^ mask_width scalar
  pub range : Within a.range (span_of scalar)

-- none is of every scalar
abbrev pub IsOf : Scalar → AbsVal → Type 0
IsOf scalar a = (is_none_val a ≡ true) ⊎ PartsOf scalar a

-- ---- which operators there are
-- the scalar of the right side: a shift's count may be of any integer scalar
abbrev pub IsRight : Op → Scalar → Scalar → Type 0
IsRight Shl scalar other = is_pointer other ≡ false
IsRight Shr scalar other = is_pointer other ≡ false
IsRight op scalar other = other ≡ scalar

-- an integer operator, or a pointer moved by an i64
abbrev pub IsAllowed : Op → Scalar → Scalar → Type 0
IsAllowed op scalar other = ((is_pointer scalar ≡ true) × (op ≡ Add) × (other ≡ I64)) ⊎ ((is_pointer scalar ≡ false) × IsRight op scalar other)

-- pointers are compared by `==` and `!=` alone
abbrev pub is_equality : Cmp → Bool
is_equality Eq = true
is_equality Ne = true
is_equality cmp = false

abbrev pub MayCompare : Cmp → Scalar → Type 0
MayCompare cmp scalar = (is_pointer scalar ≡ false) ⊎ (is_equality cmp ≡ true)
