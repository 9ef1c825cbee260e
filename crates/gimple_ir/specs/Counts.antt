-- How many parts programs have.
use Rattle.std.specs.Prelude.{ℕ, ◌<◌, ◌^◌, length}
use Rattle.std.specs.List.{All}
use Rattle.gimple_ir.specs.declared.declarations.StructDef.{StructDef}
use Rattle.gimple_ir.specs.declared.program.Function.{Function}
use Rattle.gimple_ir.specs.declared.program.Program.{Program}
use Rattle.gimple_ir.specs.Size.{size_of_program, branches_of_function}

-- There are fewer than n parts of each kind: structs, fields of a struct, globals, functions, statements and ends of the whole program,
-- and formals, locals and branches of a function.
pub record CountsWithin (n : ℕ) (p : Program) : Type 0 where
  pub structs : length p.structs < n
  pub fields : All (λ (s : StructDef). length s.fields < n) p.structs
  pub globals : length p.globals < n
  pub functions : length p.functions < n
  pub size : size_of_program p < n
  pub formals : All (λ (f : Function). length f.params < n) p.functions
  pub locals : All (λ (f : Function). length f.locals < n) p.functions
  pub branches : All (λ (f : Function). branches_of_function f < n) p.functions

-- parts that 32 bits can number
abbrev pub IsCountable : Program → Type 0
IsCountable p = CountsWithin (2 ^ 32) p
