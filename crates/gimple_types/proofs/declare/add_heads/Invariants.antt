use Rattle.std.proofs.Common.{◌≡◌, ◌+◌, ◌<◌, ◌^◌, length}
use Rattle.gimple_core.specs.Declarations as spec
use Rattle.gimple_types.proofs.declare.add_heads.Given as goal

abbrev pub invariant-loop-rest : goal.invariant-loop-rest
invariant-loop-rest l = (l.number + length l.rest < 2 ^ 32) × (spec.heads l.fn.globals 0 l.fn.functions l.fn.items ≡ spec.heads l.fn.globals l.number l.functions l.rest)

abbrev pub decreases-loop-rest : goal.decreases-loop-rest
decreases-loop-rest l = length l.rest
