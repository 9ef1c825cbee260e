-- How many formals a program has, and how many arguments its calls by name have.
use Rattle.std.specs.Prelude.{ℕ, ◌+◌, ◌<◌, ◌^◌, length, sum_by}
use Rattle.gimple_ir.specs.declared.block.Block.{Block}
use Rattle.gimple_ir.specs.declared.program.Function.{Function}
use Rattle.gimple_ir.specs.declared.program.Program.{Program}
use Rattle.gimple_ir.specs.declared.statement.Stmt.{Stmt}
use Rattle.gimple_ir.specs.declared.statement.Stmt.TheVariants.{Call}

abbrev pub arguments_of_stmt : Stmt → ℕ
arguments_of_stmt (Call to callee arguments) = length arguments
arguments_of_stmt x = 0

abbrev pub arguments_of_block : Block → ℕ
arguments_of_block b = sum_by arguments_of_stmt b.body

abbrev pub arguments_of_function : Function → ℕ
arguments_of_function f = sum_by arguments_of_block f.blocks

abbrev pub arguments_of_program : Program → ℕ
arguments_of_program p = sum_by arguments_of_function p.functions

abbrev pub formals_of_program : Program → ℕ
formals_of_program p = sum_by (λ (f : Function). length f.params) p.functions

-- so few that 32 bits can number the arguments, and the formals with one more
pub record HasFewArguments (p : Program) : Type 0 where
  pub formals : formals_of_program p + 1 < 2 ^ 32
  pub arguments : arguments_of_program p < 2 ^ 32
