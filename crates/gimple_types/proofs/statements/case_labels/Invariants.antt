use Rattle.std.proofs.Common.{◌≡◌, length}
use Rattle.gimple_core.specs.Statements as spec
use Rattle.gimple_types.specs.Seen.{env_of}
use Rattle.gimple_types.proofs.statements.case_labels.Given as goal

abbrev pub invariant-loop-rest : goal.invariant-loop-rest
invariant-loop-rest l = spec.case_labels (env_of l.fn.env) l.fn.cases ≡ spec.case_labels (env_of l.fn.env) l.rest

abbrev pub decreases-loop-rest : goal.decreases-loop-rest
decreases-loop-rest l = length l.rest
