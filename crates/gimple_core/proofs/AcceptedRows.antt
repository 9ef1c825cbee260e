-- The first fault of some small programs: one for each code, and one for each order of two checks that both fail.
use Rattle.std.proofs.Common.{◌≡◌, ℕ, true, List, [], ◌∷◌, Option, Some, None, refl, pos}
use Rattle.gimple_ir.specs.declared.scalar.Scalar.{Scalar}
use Rattle.gimple_ir.specs.declared.scalar.Scalar.TheVariants.{I32, I64, Ptr}
use Rattle.gimple_ir.specs.declared.operand.Operand.{Operand}
use Rattle.gimple_ir.specs.declared.operand.Operand.TheVariants.{Reg, Number, Address}
use Rattle.gimple_ir.specs.declared.operand.Base.TheVariants.{Variable}
use Rattle.gimple_ir.specs.declared.statement.Stmt.{Stmt}
use Rattle.gimple_ir.specs.declared.statement.Stmt.TheVariants.{Copy, Load, Store, Call, Indirect}
use Rattle.gimple_ir.specs.declared.statement.Signature.{Signature}
use Rattle.gimple_ir.specs.declared.block.Case.{Case}
use Rattle.gimple_ir.specs.declared.block.Block.{Block}
use Rattle.gimple_ir.specs.declared.block.End.{End}
use Rattle.gimple_ir.specs.declared.block.End.TheVariants.{Goto, Switch, Return}
use Rattle.gimple_ir.specs.declared.declarations.Shape.{Shape}
use Rattle.gimple_ir.specs.declared.declarations.Shape.TheVariants.{Plain, Named}
use Rattle.gimple_ir.specs.declared.declarations.Decl.{Decl}
use Rattle.gimple_ir.specs.declared.declarations.StructDef.{StructDef}
use Rattle.gimple_ir.specs.declared.declarations.Global.{Global}
use Rattle.gimple_ir.specs.declared.declarations.Register.{Register}
use Rattle.gimple_ir.specs.declared.program.Function.{Function}
use Rattle.gimple_ir.specs.declared.program.Program.{Program}
use Rattle.gimple_ir.specs.declared.fault.Site.{Site}
use Rattle.gimple_ir.specs.declared.fault.Site.TheVariants as site
use Rattle.gimple_ir.specs.declared.fault.TypeFault.{TypeFault}
use Rattle.gimple_core.specs.Run.{main_name}
use Rattle.gimple_core.specs.Layout as layout
use Rattle.gimple_core.specs.Env as e
use Rattle.gimple_core.specs.Statements as s
use Rattle.gimple_core.specs.Declarations as d
use Rattle.gimple_core.specs.Accepted.{checked, first_fault}

abbrev fault : ℕ → Site → Option TypeFault
fault code where_to = Some (record { code = code; site = where_to })

-- names of one letter
abbrev f : List ℕ
f = 102 ∷ []

abbrev g : List ℕ
g = 103 ∷ []

abbrev h : List ℕ
h = 104 ∷ []

abbrev l : List ℕ
l = 108 ∷ []

abbrev n : List ℕ
n = 110 ∷ []

abbrev p : List ℕ
p = 112 ∷ []

abbrev v : List ℕ
v = 118 ∷ []

abbrev x : List ℕ
x = 120 ∷ []

abbrev y : List ℕ
y = 121 ∷ []

abbrev z : List ℕ
z = 122 ∷ []

abbrev block : List Stmt → End → Block
block body end = record { label = 2; body = body; end = end }

abbrev register : List ℕ → Scalar → Register
register name scalar = record { name = name; scalar = scalar }

abbrev decl : List ℕ → Shape → Option ℕ → Decl
decl name shape length = record { name = name; shape = shape; length = length }

abbrev global : List ℕ → Shape → Option ℕ → List Operand → Global
global name shape length items = record { decl = decl name shape length; constant = true; items = items }

abbrev zero_result : End
zero_result = Return (Some (Number (pos 0)))

-- i32 main () with registers i32 x, i64 y, ptr p and a local i32 l[2]
abbrev main_of : List Block → Function
main_of blocks = record { name = main_name; params = []; result = Some I32; locals = decl l (Plain I32) (Some 2) ∷ []; registers = register x I32 ∷ register y I64 ∷ register p Ptr ∷ []; blocks = blocks }

-- i32 f (i32 n) { <bb 2>: return n; }
abbrev taker : Function
taker = record { name = f; params = register n I32 ∷ []; result = Some I32; locals = []; registers = []; blocks = block [] (Return (Some (Reg n))) ∷ [] }

-- void v () { <bb 2>: return; }
abbrev nothing : Function
nothing = record { name = v; params = []; result = None; locals = []; registers = []; blocks = block [] (Return None) ∷ [] }

-- global const i32 g = {5}; and the functions f, v and main with these blocks
abbrev program : List Block → Program
program blocks = record { profile = 1; structs = []; globals = global g (Plain I32) None (Number (pos 5) ∷ []) ∷ []; functions = taker ∷ nothing ∷ main_of blocks ∷ [] }

-- the fault of a statement of main, and of an end
abbrev of_stmt : Stmt → Option TypeFault
of_stmt stmt = first_fault (program (block (stmt ∷ []) zero_result ∷ []))

abbrev of_end : End → Option TypeFault
of_end end = first_fault (program (block [] end ∷ []))

-- the fault of structs and globals before a main
abbrev of_declared : List StructDef → List Global → Option TypeFault
of_declared structs globals = first_fault (record { profile = 1; structs = structs; globals = globals; functions = main_of (block [] zero_result ∷ []) ∷ [] })

abbrev of_functions : List Function → Option TypeFault
of_functions functions = first_fault (record { profile = 1; structs = []; globals = []; functions = functions })

-- the same in profile 2
abbrev of_stmt_2 : Stmt → Option TypeFault
of_stmt_2 stmt = first_fault (record (program (block (stmt ∷ []) zero_result ∷ [])) { profile = 2 })

abbrev of_item_2 : Operand → Option TypeFault
of_item_2 item = first_fault (record (program (block [] zero_result ∷ [])) { profile = 2; globals = global g (Plain Ptr) None (item ∷ []) ∷ [] })

-- i32 (i32)
abbrev signature : Signature
signature = record { params = I32 ∷ []; result = Some I32 }

abbrev void : Signature
void = record { params = []; result = None }

abbrev case_of : ℕ → ℕ → Case
case_of value target = record { value = pos value; target = target }

abbrev here : Site
here = site.Statement 2 1

rows : (of_functions [] ≡ fault 3 site.Whole)
    × (of_functions (main_of (block [] zero_result ∷ []) ∷ []) ≡ None)
    × (of_functions (taker ∷ record taker { name = main_name } ∷ []) ≡ fault 3 (site.Statement 1 0))
    × (of_functions (main_of [] ∷ []) ≡ fault 10 (site.Statement 0 0))
    × (of_functions (main_of (block [] zero_result ∷ block [] zero_result ∷ []) ∷ []) ≡ fault 9 (site.Statement 0 0))
    × (of_functions (taker ∷ taker ∷ []) ≡ fault 2 (site.Statement 1 0))
    × (of_functions (record taker { registers = register n I32 ∷ [] } ∷ main_of [] ∷ []) ≡ fault 2 (site.Statement 0 0))
    × (of_declared [] (global main_name (Plain I32) None [] ∷ []) ≡ fault 2 (site.Statement 0 0))
    × (of_declared [] (global g (Plain I32) (Some 2) (Number (pos 1) ∷ Number (pos 2) ∷ Number (pos 3) ∷ []) ∷ []) ≡ fault 11 (site.Global 0))
    × (of_declared [] (global g (Plain I32) (Some 0) [] ∷ []) ≡ fault 12 (site.Global 0))
    × (of_declared [] (global g (Named h) None [] ∷ []) ≡ fault 1 (site.Global 0))
    × (of_declared (record { name = h; fields = [] } ∷ []) [] ≡ fault 12 (site.Struct 0))
    × (of_declared (record { name = h; fields = decl x (Named h) None ∷ [] } ∷ []) [] ≡ fault 15 (site.Struct 0))
    × (of_stmt (Copy z (Number (pos 0))) ≡ fault 1 here)
    × (of_stmt (Copy x (Reg y)) ≡ fault 4 here)
    × (of_stmt (Call (Some x) f []) ≡ fault 5 here)
    × (of_stmt (Call (Some x) f (Reg y ∷ [])) ≡ fault 6 here)
    × (of_stmt (Call (Some x) v []) ≡ fault 7 here)
    × (of_end (Goto 9) ≡ fault 8 here)
    × (of_stmt (Load x I32 (record { base = Variable l; offset = pos 1 })) ≡ fault 11 here)
    × (of_stmt (Load x I32 (record { base = Variable l; offset = pos 4 })) ≡ None)
    × (of_stmt (Copy x (Number (pos 2147483648))) ≡ fault 13 here)
    × (of_stmt (Store I32 (record { base = Variable g; offset = pos 0 }) (Number (pos 6))) ≡ fault 14 here)
    × (of_end (Return None) ≡ fault 16 here)
    × (of_end (Switch (Reg x) (case_of 1 2 ∷ case_of 1 2 ∷ []) 2) ≡ fault 17 here)
unfolding first_fault checked layout.layout_of d.structs d.one_struct d.fields d.sized d.globals d.one_global d.item d.items d.heads d.head d.main d.functions d.one_function d.own d.registers d.register d.is_free d.locals d.local d.labels d.new_label s.blocks s.body s.statement s.called s.arguments s.printed s.place_at s.arith s.right_side s.count s.compared s.common_scalar s.integer s.converted s.operand s.ending s.label s.case_values s.new_case s.case_labels s.returned e.scalar_of
rows = (refl, refl, refl, refl, refl, refl, refl, refl, refl, refl, refl, refl, refl, refl, refl, refl, refl, refl, refl, refl, refl, refl, refl, refl, refl)

-- addresses of functions and calls through registers
rows_2 : (of_stmt (Copy p (Address f (pos 0))) ≡ fault 1 here)
    × (of_stmt (Indirect (Some x) signature p (Reg x ∷ [])) ≡ fault 1 here)
    × (of_stmt_2 (Copy p (Address f (pos 0))) ≡ None)
    × (of_stmt_2 (Indirect (Some x) signature p (Reg x ∷ [])) ≡ None)
    × (of_item_2 (Address main_name (pos 0)) ≡ None)
    × (of_stmt_2 (Copy p (Address z (pos 0))) ≡ fault 1 here)
    × (of_stmt_2 (Copy p (Address f (pos 1))) ≡ fault 11 here)
    × (of_item_2 (Address f (pos 1)) ≡ fault 11 (site.Global 0))
    × (of_item_2 (Address g (pos 1)) ≡ None)
    × (of_item_2 (Address l (pos 0)) ≡ fault 1 (site.Global 0))
    × (of_stmt_2 (Load x I32 (record { base = Variable f; offset = pos 0 })) ≡ fault 1 here)
    × (of_stmt_2 (Indirect (Some x) signature z []) ≡ fault 1 here)
    × (of_stmt_2 (Indirect (Some x) signature x []) ≡ fault 4 here)
    × (of_stmt_2 (Indirect (Some x) signature p []) ≡ fault 5 here)
    × (of_stmt_2 (Indirect (Some x) signature p (Reg y ∷ [])) ≡ fault 6 here)
    × (of_stmt_2 (Indirect (Some x) void p []) ≡ fault 7 here)
    × (of_stmt_2 (Indirect (Some y) signature p (Reg x ∷ [])) ≡ fault 4 here)
    × (of_stmt_2 (Indirect None signature p (Reg x ∷ [])) ≡ None)
unfolding first_fault checked layout.layout_of d.structs d.one_struct d.fields d.sized d.globals d.one_global d.item d.items d.heads d.head d.main d.functions d.one_function d.own d.registers d.register d.is_free d.locals d.local d.labels d.new_label s.blocks s.body s.statement s.called s.called_through s.arguments s.printed s.place_at s.arith s.right_side s.count s.compared s.common_scalar s.integer s.converted s.operand s.ending s.label s.case_values s.new_case s.case_labels s.returned e.scalar_of
rows_2 = (refl, refl, refl, refl, refl, refl, refl, refl, refl, refl, refl, refl, refl, refl, refl, refl, refl, refl)
