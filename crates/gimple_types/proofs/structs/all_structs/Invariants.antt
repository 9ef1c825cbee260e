use Rattle.std.proofs.Common.{◌≡◌, ◌+◌, ◌<◌, ◌^◌, [], ◌++◌, length}
use Rattle.gimple_core.specs.Declarations as spec
use Rattle.gimple_types.proofs.structs.all_structs.Given as goal

abbrev pub invariant-loop-rest : goal.invariant-loop-rest
invariant-loop-rest l = (l.number + length l.rest < 2 ^ 32) × (l.fn.items ≡ l.earlier ++ l.rest) × (spec.structs l.fn.items 0 [] l.fn.items ≡ spec.structs l.fn.items l.number l.earlier l.rest)

abbrev pub decreases-loop-rest : goal.decreases-loop-rest
decreases-loop-rest l = length l.rest
