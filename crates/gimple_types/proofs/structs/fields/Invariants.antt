use Rattle.std.proofs.Common.{◌≡◌, [], length}
use Rattle.gimple_core.specs.Declarations as spec
use Rattle.gimple_types.proofs.structs.fields.Given as goal

abbrev pub invariant-loop-rest : goal.invariant-loop-rest
invariant-loop-rest l = spec.fields l.fn.all l.fn.earlier [] l.fn.items ≡ spec.fields l.fn.all l.fn.earlier l.seen l.rest

abbrev pub decreases-loop-rest : goal.decreases-loop-rest
decreases-loop-rest l = length l.rest
