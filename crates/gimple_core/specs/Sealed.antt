-- What a run is of.
use Rattle.std.specs.Prelude.{List}
use Rattle.gimple_ir.specs.declared.scalar.Mode.{Mode}
use Rattle.gimple_ir.specs.declared.program.Function.{Function}
use Rattle.gimple_ir.specs.declared.program.Program.{Program}

-- a program, and the mode of its arithmetic: what a checked program holds
pub record Sealed : Type 0 where
  pub program : Program
  pub mode : Mode

-- the same with these functions
abbrev pub with_functions : Sealed → List Function → Sealed
with_functions p fs = record p { program = record p.program { functions = fs } }
