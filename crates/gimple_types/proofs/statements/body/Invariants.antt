use Rattle.std.proofs.Common.{◌≡◌, ◌+◌, ◌≤◌, ◌^◌, length}
use Rattle.gimple_core.specs.Statements as spec
use Rattle.gimple_types.specs.Seen.{env_of}
use Rattle.gimple_types.proofs.statements.body.Given as goal

abbrev pub invariant-loop-rest : goal.invariant-loop-rest
invariant-loop-rest l = (l.number + length l.rest ≤ 2 ^ 32) × (spec.body (env_of l.fn.env) l.fn.env.known.now.functions l.fn.function l.fn.number l.fn.stmts ≡ spec.body (env_of l.fn.env) l.fn.env.known.now.functions l.fn.function l.number l.rest)

abbrev pub decreases-loop-rest : goal.decreases-loop-rest
decreases-loop-rest l = length l.rest
