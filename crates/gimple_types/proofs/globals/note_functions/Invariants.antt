use Rattle.std.proofs.Common.{◌≡◌, length}
use Rattle.gimple_core.specs.Env.{functions_by_name}
use Rattle.gimple_types.specs.Tables.{first_of_each}
use Rattle.gimple_types.proofs.globals.note_functions.Given as goal

abbrev pub invariant-loop-rest : goal.invariant-loop-rest
invariant-loop-rest l = first_of_each l.fn.table (functions_by_name l.fn.items) ≡ first_of_each l.table (functions_by_name l.rest)

abbrev pub decreases-loop-rest : goal.decreases-loop-rest
decreases-loop-rest l = length l.rest
