-- Two small programs: one of calls, and one of addresses.
use Rattle.std.specs.Prelude.{ℕ, true, List, [], ◌∷◌, Some, None, pos}
use Rattle.gimple_ir.specs.declared.block.End.TheVariants.{Goto, If, Return}
use Rattle.gimple_ir.specs.declared.declarations.Global.{Global}
use Rattle.gimple_ir.specs.declared.declarations.Shape.TheVariants.{Plain}
use Rattle.gimple_ir.specs.declared.operand.Operand.{Operand}
use Rattle.gimple_ir.specs.declared.operand.Operand.TheVariants.{Number, Null, Address}
use Rattle.gimple_ir.specs.declared.program.Function.{Function}
use Rattle.gimple_ir.specs.declared.program.Program.{Program}
use Rattle.gimple_ir.specs.declared.scalar.Cmp.TheVariants.{Eq}
use Rattle.gimple_ir.specs.declared.scalar.Scalar.TheVariants.{I32, Ptr}
use Rattle.gimple_ir.specs.declared.statement.Stmt.{Stmt}
use Rattle.gimple_ir.specs.declared.statement.Stmt.TheVariants.{Call, Copy}
use Rattle.gimple_core.specs.Run.{main_name}

abbrev pub call_to : List ℕ → List Stmt
call_to callee = Call None callee [] ∷ []

-- a function of this name that calls one function
abbrev pub caller : List ℕ → List ℕ → Function
caller name callee = record { name = name; params = []; result = None; locals = []; registers = []; blocks = record { label = 2; body = call_to callee; end = Return None } ∷ [] }

-- main, which calls one function in its second block
abbrev pub main_calling : List ℕ → Function
main_calling callee = record {
  name = main_name;
  params = [];
  result = Some I32;
  locals = [];
  registers = [];
  blocks = record { label = 2; body = []; end = Goto 3 } ∷ record { label = 3; body = call_to callee; end = Return (Some (Number (pos 0))) } ∷ [];
}

-- h calls k, k calls h, main calls f, and f calls f
abbrev pub sample : Program
sample = record { profile = 1; structs = []; globals = []; functions = caller (104 ∷ []) (107 ∷ []) ∷ caller (107 ∷ []) (104 ∷ []) ∷ main_calling (102 ∷ []) ∷ caller (102 ∷ []) (102 ∷ []) ∷ [] }

-- a function of this name without statements
abbrev pub plain : List ℕ → Function
plain name = record { name = name; params = []; result = None; locals = []; registers = []; blocks = record { label = 2; body = []; end = Return None } ∷ [] }

abbrev pub address : List ℕ → Operand
address name = Address name (pos 0)

-- main, which addresses one function in a block that no other leads to
abbrev pub main_addressing : List ℕ → Function
main_addressing name = record {
  name = main_name;
  params = [];
  result = Some I32;
  locals = [];
  registers = record { name = 112 ∷ []; scalar = Ptr } ∷ [];
  blocks = record { label = 2; body = []; end = Return (Some (Number (pos 0))) } ∷ record { label = 3; body = Copy (112 ∷ []) (address name) ∷ []; end = Goto 2 } ∷ [];
}

-- a function of this name that addresses one function in the end of its first block
abbrev pub comparer : List ℕ → List ℕ → Function
comparer name other = record {
  name = name;
  params = [];
  result = None;
  locals = [];
  registers = [];
  blocks = record { label = 2; body = []; end = If (address other) Eq Null 3 3 } ∷ record { label = 3; body = []; end = Return None } ∷ [];
}

-- the global t, whose one item addresses one function
abbrev pub table : List ℕ → Global
table name = record { decl = record { name = 116 ∷ []; shape = Plain Ptr; length = None }; constant = true; items = address name ∷ [] }

-- an item addresses f, main addresses g in a block that is not reached, and u, which is not reached, addresses h
abbrev pub addressing : Program
addressing = record {
  profile = 2;
  structs = [];
  globals = table (102 ∷ []) ∷ [];
  functions = main_addressing (103 ∷ []) ∷ plain (102 ∷ []) ∷ plain (103 ∷ []) ∷ comparer (117 ∷ []) (104 ∷ []) ∷ plain (104 ∷ []) ∷ [];
}
