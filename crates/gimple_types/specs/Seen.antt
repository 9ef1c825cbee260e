-- The tables of the checks as what names mean.
use Rattle.std.specs.Prelude.{Bool, true, false, Some, None}
use Rattle.gimple_ir.specs.declared.declarations.Global.{Global}
use Rattle.gimple_ir.specs.declared.program.Function.{Function}
use Rattle.gimple_core.specs.Accepted.{known_env}
use Rattle.gimple_core.specs.Env.{Env, Names, Targets}
use Rattle.gimple_types.specs.declared.env.Known.{Known}
use Rattle.gimple_types.specs.declared.env.Own.{Own}
use Rattle.gimple_types.specs.declared.env.Env.{Env as Tables}

-- what an item of a global may address: globals and functions
pub record Addressable : Type 0 where
  pub globals : Names Global
  pub targets : Targets

-- these functions, where functions may be addressed
abbrev pub targets_if : Bool → Names Function → Targets
targets_if true functions = Some functions
targets_if false functions = None

-- the functions that a body may address
abbrev pub targets_known : Known → Targets
targets_known known = targets_if known.has_targets known.functions

-- what names mean outside of functions
abbrev pub known_of : Known → Env
known_of known = known_env known.structs (targets_known known) known.globals

abbrev pub seen : Known → Own → Env
seen known own = record { targets = targets_known known; structs = known.structs; globals = known.globals; locals = own.locals; registers = own.registers; labels = own.labels; result = own.result }

abbrev pub env_of : Tables → Env
env_of tables = seen tables.known.now tables.own.now
