use Rattle.std.proofs.Common.{◌≡◌, length}
use Rattle.gimple_core.specs.Statements as spec
use Rattle.gimple_types.specs.Seen.{env_of}
use Rattle.gimple_types.proofs.statements.arguments.Given as goal

abbrev pub invariant-loop-left : goal.invariant-loop-left
invariant-loop-left l = spec.arguments (env_of l.fn.env) l.fn.scalars l.fn.xs ≡ spec.arguments (env_of l.fn.env) l.left l.right

abbrev pub decreases-loop-left : goal.decreases-loop-left
decreases-loop-left l = length l.left
