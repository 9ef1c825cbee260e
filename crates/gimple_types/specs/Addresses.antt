-- The checks of addresses, behind those of their scalar.
use Rattle.std.specs.Ordering.{int_eq}
use Rattle.std.specs.Prelude.{ℕ, ◌||◌, not, List, ℤ, pos}
use Rattle.gimple_ir.specs.declared.scalar.Scalar.TheVariants.{I64}
use Rattle.gimple_core.specs.Operators.{in_scalar}
use Rattle.gimple_core.specs.Verdict.{Verdict, ◌>>◌, demand}
use Rattle.gimple_core.specs.Env.{Env, has, is_variable, is_target}
use Rattle.gimple_types.specs.Seen.{Addressable}

-- in an operand
abbrev pub address_of : Env → List ℕ → ℤ → Verdict (Unit {0})
address_of env name offset = do
  demand (is_variable env name || is_target env.targets name) 1
  demand (in_scalar I64 offset) 13
  demand (is_variable env name || int_eq offset (pos 0)) 11

-- in an item of a global
abbrev pub item_address : Addressable → List ℕ → ℤ → Verdict (Unit {0})
item_address known name offset = do
  demand (in_scalar I64 offset) 13
  demand (has name known.globals || not (is_target known.targets name) || int_eq offset (pos 0)) 11
  demand (has name known.globals || is_target known.targets name) 1
