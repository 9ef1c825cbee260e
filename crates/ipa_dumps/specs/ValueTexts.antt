-- The texts of abstract values. A number of no global has the name of no bytes.
use Rattle.std.specs.Prelude.{ℕ, zero, suc, ℤ, pos, negsuc, ◌^◌, ◌%◌, Bool, false, if◌then◌else◌, List, [], ◌∷◌, ◌++◌, Option, None, Some, slice_get, codes}
use Rattle.std.specs.List.{flat_map}
use Rattle.std.specs.Fmt.{digits, signed_decimal}
use Rattle.gimple_ir.specs.declared.declarations.Global.{Global}
use Rattle.gimple_ir.specs.declared.program.Program.{Program}
use Rattle.gimple_ir.specs.declared.scalar.Scalar.{Scalar}
use Rattle.gimple_ir.specs.declared.value.Constant.{Constant}
use Rattle.gimple_ir.specs.declared.value.Constant.TheVariants as constant
use Rattle.gimple_core.specs.Operators.{modulus_of}
use Rattle.gimple_core.specs.Statements.{is_pointer}
use Rattle.value_domain.specs.declared.abs_val.AbsVal.{AbsVal}
use Rattle.value_domain.specs.declared.bits.Bits.{Bits}
use Rattle.value_domain.specs.declared.range.Range.{Range}
use Rattle.value_domain.specs.declared.vals.Vals.{Vals}
use Rattle.value_domain.specs.declared.vals.Vals.TheVariants.{Any, Nothing, Among}
use Rattle.value_domain.specs.Values.{is_none_val}

abbrev pub global_name : Option Global → List ℕ
global_name None = []
global_name (Some g) = g.decl.name

-- an offset of 0 is left out
abbrev pub offset_text : ℤ → List ℕ
offset_text (pos zero) = []
offset_text (pos (suc n)) = codes "@" ++ signed_decimal (pos (suc n))
offset_text (negsuc n) = codes "@" ++ signed_decimal (negsuc n)

abbrev pub constant_text : Program → Constant → List ℕ
constant_text p (constant.Int z) = signed_decimal z
constant_text p constant.Null = codes "null"
constant_text p (constant.Global n offset) = codes "&" ++ (global_name (slice_get p.globals n) ++ offset_text offset)

-- a constant behind another one
abbrev pub next_constant : Program → Constant → List ℕ
next_constant p c = codes ", " ++ constant_text p c

abbrev pub constants_text : Program → List Constant → List ℕ
constants_text p [] = []
constants_text p (c ∷ cs) = constant_text p c ++ flat_map (next_constant p) cs

abbrev pub vals_text : Program → Vals → List ℕ
vals_text p Any = codes "any"
vals_text p Nothing = codes "none"
vals_text p (Among limit cs) = codes "{" ++ (constants_text p cs ++ codes "}")

-- the lowest bits, in base 16
abbrev pub width_text : Scalar → ℕ → List ℕ
width_text scalar n = codes "0x" ++ digits 16 false (n % modulus_of scalar)

abbrev pub bits_text : Scalar → Bits → List ℕ
bits_text scalar b = codes "; bits " ++ (width_text scalar b.mask ++ (codes "=" ++ width_text scalar b.value))

abbrev pub range_text : Range → List ℕ
range_text r = codes "; range [" ++ (signed_decimal r.low ++ (codes ", " ++ (signed_decimal r.high ++ codes "]")))

-- what is said of a number beside its constants
abbrev pub number_text : Scalar → AbsVal → List ℕ
number_text scalar a = if is_none_val a then codes "; bits none; range none" else bits_text scalar a.bits ++ range_text a.range

abbrev pub parts_text : Scalar → AbsVal → List ℕ
parts_text scalar a = if is_pointer scalar then [] else number_text scalar a

-- the constants, and of a number the known bits and the interval
unfoldable pub value_text : Program → Scalar → AbsVal → List ℕ
value_text p scalar a = codes "values " ++ (vals_text p a.vals ++ parts_text scalar a)
