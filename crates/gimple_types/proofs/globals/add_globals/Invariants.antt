use Rattle.std.proofs.Common.{◌≡◌, ◌+◌, ◌<◌, ◌^◌, length}
use Rattle.gimple_core.specs.Declarations as spec
use Rattle.gimple_types.proofs.globals.add_globals.Given as goal

abbrev pub invariant-loop-rest : goal.invariant-loop-rest
invariant-loop-rest l = (l.number + length l.rest < 2 ^ 32) × (spec.globals l.fn.structs l.fn.all.targets l.fn.all.globals 0 l.fn.earlier l.fn.items ≡ spec.globals l.fn.structs l.fn.all.targets l.fn.all.globals l.number l.earlier l.rest)

abbrev pub decreases-loop-rest : goal.decreases-loop-rest
decreases-loop-rest l = length l.rest
