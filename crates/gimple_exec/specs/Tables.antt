-- What is found in a program again and again.
use Rattle.std.specs.Prelude.{◌≡◌, ℕ, List, map}
use Rattle.gimple_ir.specs.declared.declarations.Global.{Global}
use Rattle.gimple_ir.specs.declared.declarations.StructDef.{StructDef}
use Rattle.gimple_ir.specs.declared.program.Function.{Function}
use Rattle.gimple_ir.specs.declared.program.Program.{Program}
use Rattle.gimple_core.specs.Sealed.{Sealed}
use Rattle.gimple_lowered.specs.declared.types.Piece.{Piece}
use Rattle.gimple_lowered.specs.Names.{Names, names_of}
use Rattle.gimple_lowered.specs.Lowered.{code_of}
use Rattle.gimple_exec.specs.Machines.{function_of}

-- what the names in a function mean
abbrev pub names_at : Sealed → ℕ → Names
names_at p k = names_of p.program.functions p.program.globals (function_of p k)

-- the lowered forms of functions, in a program with these functions and globals
abbrev pub codes_of : List Function → List Global → List Function → List (List Piece)
codes_of functions globals fs = map (code_of functions globals) fs

-- the tables are those of the program
pub record IsIndexed (p : Program) (definitions : List StructDef) (callees : List Function) (variables : List Global) (rows : List (List Piece)) : Type 0 where
  pub structs : definitions ≡ p.structs
  pub functions : callees ≡ p.functions
  pub globals : variables ≡ p.globals
  pub codes : rows ≡ codes_of p.functions p.globals p.functions
