use Rattle.std.proofs.Common.{◌≡◌, length}
use Rattle.gimple_core.specs.Env.{has, structs_by_name}
use Rattle.gimple_types.proofs.structs.stands.Given as goal

abbrev pub invariant-loop-rest : goal.invariant-loop-rest
invariant-loop-rest l = has l.fn.name (structs_by_name l.fn.all) ≡ has l.fn.name (structs_by_name l.rest)

abbrev pub decreases-loop-rest : goal.decreases-loop-rest
decreases-loop-rest l = length l.rest
