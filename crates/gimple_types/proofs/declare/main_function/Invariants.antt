use Rattle.std.proofs.Common.{◌≡◌, ◌+◌, ◌<◌, ◌^◌, length}
use Rattle.gimple_core.specs.Declarations as spec
use Rattle.gimple_types.proofs.declare.main_function.Given as goal

abbrev pub invariant-loop-rest : goal.invariant-loop-rest
invariant-loop-rest l = (l.number + length l.rest < 2 ^ 32) × (spec.main 0 l.fn.items ≡ spec.main l.number l.rest)

abbrev pub decreases-loop-rest : goal.decreases-loop-rest
decreases-loop-rest l = length l.rest
