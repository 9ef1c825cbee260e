-- Numbers of parts of programs against 2^32.
use Rattle.std.specs.Prelude.{ℕ, ◌≡◌, ◌<◌, ◌≤◌, ◌^◌, length, Option, Some, None}
use Rattle.gimple_ir.specs.declared.declarations.StructDef.{StructDef}
use Rattle.gimple_ir.specs.declared.program.Function.{Function}
use Rattle.gimple_ir.specs.Size.{branches_of_function}

-- the number where it is below 2^32, else none
abbrev pub IsBelow : ℕ → Option ℕ → Type 0
IsBelow n (Some k) = (k ≡ n) × (n < 2 ^ 32)
IsBelow n None = 2 ^ 32 ≤ n

abbrev pub IsNarrow : StructDef → Type 0
IsNarrow s = length s.fields < 2 ^ 32

-- formals, locals and branches
unfoldable pub IsNumbered : Function → Type 0
IsNumbered f = (length f.params < 2 ^ 32) × (length f.locals < 2 ^ 32) × (branches_of_function f < 2 ^ 32)
