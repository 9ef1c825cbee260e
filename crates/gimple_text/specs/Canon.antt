-- The canonical text of programs.
use Rattle.std.specs.Prelude.{ℕ, zero, suc, Bool, true, false, List, [], ◌∷◌, ◌++◌, Option, Some, None, codes, ℤ, pos, negsuc}
use Rattle.std.specs.List.{flat_map}
use Rattle.std.specs.Fmt.{decimal, signed_decimal}
use Rattle.gimple_ir.specs.declared.operand.Operand.{Operand}
use Rattle.gimple_ir.specs.declared.operand.Operand.TheVariants.{Reg, Number, Null, Address}
use Rattle.gimple_ir.specs.declared.operand.Base.{Base}
use Rattle.gimple_ir.specs.declared.operand.Base.TheVariants as base
use Rattle.gimple_ir.specs.declared.operand.Place.{Place}
use Rattle.gimple_ir.specs.declared.scalar.Op.{Op}
use Rattle.gimple_ir.specs.declared.scalar.Op.TheVariants as op
use Rattle.gimple_ir.specs.declared.scalar.Cmp.{Cmp}
use Rattle.gimple_ir.specs.declared.scalar.Cmp.TheVariants as cmp
use Rattle.gimple_ir.specs.declared.scalar.Scalar.{Scalar}
use Rattle.gimple_ir.specs.declared.scalar.Scalar.TheVariants.{I8, I16, I32, I64, U8, U16, U32, U64, Ptr}
use Rattle.gimple_ir.specs.declared.statement.Signature.{Signature}
use Rattle.gimple_ir.specs.declared.statement.Stmt.{Stmt}
use Rattle.gimple_ir.specs.declared.statement.Stmt.TheVariants.{Copy, Arith, Compare, Convert, Load, Store, Call, Indirect, Get, Put, Abort}
use Rattle.gimple_ir.specs.declared.block.Case.{Case}
use Rattle.gimple_ir.specs.declared.block.End.{End}
use Rattle.gimple_ir.specs.declared.block.End.TheVariants.{Goto, If, Switch, Return}
use Rattle.gimple_ir.specs.declared.block.Block.{Block}
use Rattle.gimple_ir.specs.declared.declarations.Shape.{Shape}
use Rattle.gimple_ir.specs.declared.declarations.Shape.TheVariants.{Plain, Named}
use Rattle.gimple_ir.specs.declared.declarations.Decl.{Decl}
use Rattle.gimple_ir.specs.declared.declarations.StructDef.{StructDef}
use Rattle.gimple_ir.specs.declared.declarations.Global.{Global}
use Rattle.gimple_ir.specs.declared.declarations.Register.{Register}
use Rattle.gimple_ir.specs.declared.program.Function.{Function}
use Rattle.gimple_ir.specs.declared.program.Program.{Program}
use Rattle.gimple_ir.specs.Names.{Bytes}

-- ---- parts of lines

abbrev pub scalar_text : Scalar → Bytes
scalar_text I8 = codes "i8"
scalar_text I16 = codes "i16"
scalar_text I32 = codes "i32"
scalar_text I64 = codes "i64"
scalar_text U8 = codes "u8"
scalar_text U16 = codes "u16"
scalar_text U32 = codes "u32"
scalar_text U64 = codes "u64"
scalar_text Ptr = codes "ptr"

-- an offset of 0 is left out
abbrev pub offset_text : ℤ → Bytes
offset_text (pos zero) = []
offset_text (pos (suc n)) = codes "@" ++ signed_decimal (pos (suc n))
offset_text (negsuc n) = codes "@" ++ signed_decimal (negsuc n)

abbrev pub operand_text : Operand → Bytes
operand_text (Reg x) = x
operand_text (Number z) = signed_decimal z
operand_text Null = codes "null"
operand_text (Address x z) = codes "&" ++ (x ++ offset_text z)

abbrev pub op_text : Op → Bytes
op_text op.Add = codes " + "
op_text op.Sub = codes " - "
op_text op.Mul = codes " * "
op_text op.Div = codes " / "
op_text op.Rem = codes " % "
op_text op.And = codes " & "
op_text op.Or = codes " | "
op_text op.Xor = codes " ^ "
op_text op.Shl = codes " << "
op_text op.Shr = codes " >> "

abbrev pub cmp_text : Cmp → Bytes
cmp_text cmp.Eq = codes " == "
cmp_text cmp.Ne = codes " != "
cmp_text cmp.Lt = codes " < "
cmp_text cmp.Le = codes " <= "
cmp_text cmp.Gt = codes " > "
cmp_text cmp.Ge = codes " >= "

abbrev pub comparison_text : Operand → Cmp → Operand → Bytes
comparison_text l c r = operand_text l ++ (cmp_text c ++ operand_text r)

abbrev pub more_text : {A : Type 0} → (A → Bytes) → List A → Bytes
more_text item [] = []
more_text item (x ∷ xs) = codes ", " ++ (item x ++ more_text item xs)

-- with commas between
abbrev pub separated_text : {A : Type 0} → (A → Bytes) → List A → Bytes
separated_text item [] = []
separated_text item (x ∷ xs) = item x ++ more_text item xs

abbrev pub base_text : Base → Bytes
base_text (base.Reg x) = x
base_text (base.Variable x) = codes "&" ++ x

abbrev pub mem_text : Scalar → Place → Bytes
mem_text kind place = codes "MEM <" ++ (scalar_text kind ++ (codes "> [" ++ (base_text place.base ++ (offset_text place.offset ++ codes "]"))))

abbrev pub target_text : ℕ → Bytes
target_text n = codes "<bb " ++ (decimal n ++ codes ">")

abbrev pub goto_text : ℕ → Bytes
goto_text n = codes "goto " ++ (target_text n ++ codes ";")

-- ---- statements and ends

abbrev pub assigned_text : Bytes → Bytes
assigned_text x = x ++ codes " = "

abbrev pub to_text : Option Bytes → Bytes
to_text None = []
to_text (Some x) = assigned_text x

abbrev pub call_text : Bytes → List Operand → Bytes
call_text f xs = f ++ (codes " (" ++ (separated_text operand_text xs ++ codes ")"))

abbrev pub result_text : Option Scalar → Bytes
result_text None = codes "void"
result_text (Some kind) = scalar_text kind

-- what an indirect call says of its callee
unfoldable pub signature_text : Signature → Bytes
signature_text g = codes "*<" ++ (result_text g.result ++ (codes " (" ++ (separated_text scalar_text g.params ++ codes ")> ")))

-- a statement without its blanks and semicolon
abbrev pub simple_text : Stmt → Bytes
simple_text (Copy x from) = assigned_text x ++ operand_text from
simple_text (Arith x l o r) = assigned_text x ++ (operand_text l ++ (op_text o ++ operand_text r))
simple_text (Compare x l c r) = assigned_text x ++ comparison_text l c r
simple_text (Convert x kind from) = assigned_text x ++ (codes "(" ++ (scalar_text kind ++ (codes ") " ++ operand_text from)))
simple_text (Load x kind place) = assigned_text x ++ mem_text kind place
simple_text (Store kind place from) = mem_text kind place ++ (codes " = " ++ operand_text from)
simple_text (Call to f xs) = to_text to ++ call_text f xs
simple_text (Indirect to g x xs) = to_text to ++ (signature_text g ++ call_text x xs)
simple_text (Get x) = assigned_text x ++ codes "getint ()"
simple_text (Put from) = codes "putint (" ++ (operand_text from ++ codes ")")
simple_text Abort = codes "abort ()"

abbrev pub statement_text : Stmt → Bytes
statement_text b = codes "    " ++ (simple_text b ++ (codes ";" ++ 10 ∷ []))

unfoldable pub branches_text : ℕ → ℕ → Bytes
branches_text first second = goto_text first ++ (codes " else " ++ goto_text second)

abbrev pub if_text : Operand → Cmp → Operand → ℕ → ℕ → Bytes
if_text l c r first second = codes "if (" ++ (comparison_text l c r ++ (codes ") " ++ branches_text first second))

abbrev pub case_text : Case → Bytes
case_text c = codes "case " ++ (signed_decimal c.value ++ (codes ": " ++ (target_text c.target ++ codes "; ")))

abbrev pub end_text : End → Bytes
end_text (Goto n) = goto_text n
end_text (If l c r first second) = if_text l c r first second
end_text (Switch on cases other) = codes "switch (" ++ (operand_text on ++ (codes ") { " ++ (flat_map case_text cases ++ (codes "default: " ++ (target_text other ++ codes "; }")))))
end_text (Return None) = codes "return;"
end_text (Return (Some o)) = codes "return " ++ (operand_text o ++ codes ";")

abbrev pub block_text : Block → Bytes
block_text b = codes "  " ++ (target_text b.label ++ (codes ":" ++ 10 ∷ (flat_map statement_text b.body ++ (codes "    " ++ (end_text b.end ++ 10 ∷ [])))))

-- ---- declarations

abbrev pub shape_text : Shape → Bytes
shape_text (Plain kind) = scalar_text kind
shape_text (Named x) = codes "struct " ++ x

abbrev pub length_text : Option ℕ → Bytes
length_text None = []
length_text (Some n) = codes "[" ++ (decimal n ++ codes "]")

abbrev pub decl_text : Decl → Bytes
decl_text d = shape_text d.shape ++ (codes " " ++ (d.name ++ length_text d.length))

abbrev pub field_text : Decl → Bytes
field_text d = codes "  " ++ (decl_text d ++ (codes ";" ++ 10 ∷ []))

abbrev pub struct_text : StructDef → Bytes
struct_text x = codes "struct " ++ (x.name ++ (codes " {" ++ 10 ∷ (flat_map field_text x.fields ++ (codes "};" ++ 10 ∷ []))))

abbrev pub const_text : Bool → Bytes
const_text false = []
const_text true = codes "const "

abbrev pub items_text : List Operand → Bytes
items_text [] = []
items_text (x ∷ xs) = codes " = {" ++ (separated_text operand_text (x ∷ xs) ++ codes "}")

abbrev pub global_text : Global → Bytes
global_text g = codes "global " ++ (const_text g.constant ++ (decl_text g.decl ++ (items_text g.items ++ (codes ";" ++ 10 ∷ []))))

-- ---- functions and programs

abbrev pub register_text : Register → Bytes
register_text r = scalar_text r.scalar ++ (codes " " ++ r.name)

abbrev pub register_line : Register → Bytes
register_line r = codes "  " ++ (register_text r ++ (codes ";" ++ 10 ∷ []))

abbrev pub local_text : Decl → Bytes
local_text d = codes "  local " ++ (decl_text d ++ (codes ";" ++ 10 ∷ []))

abbrev pub head_text : Function → Bytes
head_text f = result_text f.result ++ (codes " " ++ (f.name ++ (codes " (" ++ (separated_text register_text f.params ++ (codes ") {" ++ 10 ∷ [])))))

abbrev pub function_text : Function → Bytes
function_text f = head_text f ++ (flat_map local_text f.locals ++ (flat_map register_line f.registers ++ (flat_map block_text f.blocks ++ (codes "}" ++ 10 ∷ []))))

-- the first line, by the profile
unfoldable pub header_text : ℕ → Bytes
header_text profile = codes "gimple " ++ (decimal profile ++ (codes ";" ++ 10 ∷ []))

-- the canonical text
unfoldable pub canon : Program → Bytes
canon p = header_text p.profile ++ (flat_map struct_text p.structs ++ (flat_map global_text p.globals ++ flat_map function_text p.functions))
