-- What the names in a function mean.
use Rattle.std.specs.Prelude.{◌<◌, ◌^◌, ◌==◌, length, ℕ, List, map, Option, Some, None, find, position}
use Rattle.std.specs.Str.{bytes_eq}
use Rattle.gimple_ir.specs.declared.scalar.Scalar.{Scalar}
use Rattle.gimple_ir.specs.declared.declarations.Decl.{Decl}
use Rattle.gimple_ir.specs.declared.declarations.Global.{Global}
use Rattle.gimple_ir.specs.declared.declarations.Register.{Register}
use Rattle.gimple_ir.specs.declared.block.Block.{Block}
use Rattle.gimple_ir.specs.declared.program.Function.{Function}
use Rattle.gimple_core.specs.State.{registers_of, register_place, scalar_or_pointer}
use Rattle.gimple_lowered.specs.declared.scope.Scope.{Scope}

-- what the names in a function mean: functions and globals of the program, and the function's locals, registers and labels
pub record Names : Type 0 where
  pub functions : List Function
  pub globals : List Global
  pub locals : List Decl
  pub registers : List Register
  pub labels : List ℕ

abbrev pub labels_of : List Block → List ℕ
labels_of bs = map (λ b. b.label) bs

-- those of a function of a program
abbrev pub names_of : List Function → List Global → Function → Names
names_of functions globals f = record { functions = functions; globals = globals; locals = f.locals; registers = registers_of f; labels = labels_of f.blocks }

abbrev pub names_in : Scope → Names
names_in s = record { functions = s.functions.now; globals = s.globals.now; locals = s.locals.now; registers = s.registers.now; labels = s.labels.now }

-- the numbers of globals and locals are those of objects
pub record IsNarrow (n : Names) : Type 0 where
  pub globals : length n.globals < 2 ^ 32
  pub locals : length n.locals < 2 ^ 32

-- the scalar of a register
abbrev pub scalar_named : Names → List ℕ → Scalar
scalar_named n name = scalar_or_pointer (find (λ r. bytes_eq r.name name) n.registers)

-- the position of the register that takes a call's result
abbrev pub taking : Names → Option (List ℕ) → Option ℕ
taking n None = None
taking n (Some name) = register_place n.registers name

-- the number of a function
abbrev pub function_place : Names → List ℕ → Option ℕ
function_place n name = position (λ f. bytes_eq f.name name) n.functions

-- the number of a block
abbrev pub block_place : Names → ℕ → Option ℕ
block_place n label = position (λ l. l == label) n.labels
