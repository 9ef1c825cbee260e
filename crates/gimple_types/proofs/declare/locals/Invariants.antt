use Rattle.std.proofs.Common.{◌≡◌, length}
use Rattle.gimple_core.specs.Declarations as spec
use Rattle.gimple_types.specs.Seen.{seen}
use Rattle.gimple_types.proofs.declare.locals.Given as goal

abbrev pub invariant-loop-rest : goal.invariant-loop-rest
invariant-loop-rest l = spec.locals (seen l.fn.known l.fn.own) l.fn.known.functions l.fn.items ≡ spec.locals (seen l.fn.known l.own) l.fn.known.functions l.rest

abbrev pub decreases-loop-rest : goal.decreases-loop-rest
decreases-loop-rest l = length l.rest
