use Rattle.std.proofs.Common.{◌≡◌, length}
use Rattle.gimple_core.specs.Declarations as spec
use Rattle.gimple_types.proofs.declare.labels.Given as goal

abbrev pub invariant-loop-rest : goal.invariant-loop-rest
invariant-loop-rest l = spec.labels l.fn.own l.fn.items ≡ spec.labels l.own l.rest

abbrev pub decreases-loop-rest : goal.decreases-loop-rest
decreases-loop-rest l = length l.rest
