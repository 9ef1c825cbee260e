-- The first type fault of a program. Codes: 1 unknown name, 2 name twice, 3 no main or wrong main, 4 operand type, 5 argument
-- count, 6 argument type, 7 result use, 8 label unknown, 9 label twice, 10 no blocks, 11 no slot, 12 size, 13 literal range,
-- 14 store to read-only, 15 struct order, 16 return type, 17 switch case twice.
use Rattle.std.specs.Prelude.{◌≡◌, List, [], Option, None}
use Rattle.gimple_ir.specs.declared.declarations.StructDef.{StructDef}
use Rattle.gimple_ir.specs.declared.declarations.Global.{Global}
use Rattle.gimple_ir.specs.declared.program.Program.{Program}
use Rattle.gimple_ir.specs.declared.fault.TypeFault.{TypeFault}
use Rattle.gimple_core.specs.Verdict.{Judgement, ◌>>=◌, ◌>>◌, fault_of}
use Rattle.gimple_core.specs.Env.{Env, Names, Targets, targets_of, globals_by_name}
use Rattle.gimple_core.specs.Declarations.{structs, globals, heads, main, functions}

-- what names mean outside of functions
abbrev pub known_env : List StructDef → Targets → Names Global → Env
known_env ss ts gs = record { targets = ts; structs = ss; globals = gs; locals = []; registers = []; labels = []; result = None }

-- all checks in order
unfoldable pub checked : Program → Judgement (Unit {0})
checked p = do
  structs p.structs 0 [] p.structs
  variables ← globals p.structs (targets_of p) (globals_by_name p.globals) 0 [] p.globals
  callees ← heads variables 0 [] p.functions
  main 0 p.functions
  functions (known_env p.structs (targets_of p) variables) callees 0 p.functions

-- the first check that fails
unfoldable pub first_fault : Program → Option TypeFault
first_fault p = fault_of (checked p)

-- no check fails
abbrev pub IsAccepted : Program → Type 0
IsAccepted p = first_fault p ≡ None
