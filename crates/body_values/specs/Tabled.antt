-- What the tables of a program are of.
use Rattle.std.specs.Prelude.{◌≡◌, ℕ, ℤ, List}
use Rattle.gimple_ir.specs.declared.declarations.Global.{Global}
use Rattle.gimple_ir.specs.declared.declarations.StructDef.{StructDef}
use Rattle.gimple_ir.specs.declared.program.Function.{Function}
use Rattle.gimple_ir.specs.declared.program.Program.{Program}
use Rattle.gimple_core.specs.Sealed.{Sealed}
use Rattle.value_domain.specs.Thresholds.{thresholds_list}

-- a program with the mode of its arithmetic, and how many constants a list has at most
pub record Tabled : Type 0 where
  pub program : Sealed
  pub size : ℕ

-- these are the program's structs, globals and functions, and its thresholds
pub record AreTables (p : Program) (ss : List StructDef) (gs : List Global) (fs : List Function) (ts : List ℤ) : Type 0 where
  pub structs : ss ≡ p.structs
  pub globals : gs ≡ p.globals
  pub functions : fs ≡ p.functions
  pub thresholds : ts ≡ thresholds_list p
