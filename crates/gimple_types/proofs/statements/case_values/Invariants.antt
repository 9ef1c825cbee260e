use Rattle.std.proofs.Common.{◌≡◌, [], length}
use Rattle.gimple_core.specs.Statements as spec
use Rattle.gimple_types.proofs.statements.case_values.Given as goal

abbrev pub invariant-loop-rest : goal.invariant-loop-rest
invariant-loop-rest l = spec.case_values l.fn.scalar [] l.fn.cases ≡ spec.case_values l.fn.scalar l.earlier l.rest

abbrev pub decreases-loop-rest : goal.decreases-loop-rest
decreases-loop-rest l = length l.rest
