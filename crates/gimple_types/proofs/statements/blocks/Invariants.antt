use Rattle.std.proofs.Common.{◌≡◌, ◌+◌, ◌≤◌, ◌^◌, length, sum_by}
use Rattle.gimple_ir.specs.Size.{size_of_block}
use Rattle.gimple_core.specs.Statements as spec
use Rattle.gimple_types.specs.Seen.{env_of}
use Rattle.gimple_types.proofs.statements.blocks.Given as goal

abbrev pub invariant-loop-rest : goal.invariant-loop-rest
invariant-loop-rest l = (l.number + sum_by size_of_block l.rest ≤ 2 ^ 32) × (spec.blocks (env_of l.fn.env) l.fn.env.known.now.functions l.fn.function l.fn.number l.fn.items ≡ spec.blocks (env_of l.fn.env) l.fn.env.known.now.functions l.fn.function l.number l.rest)

abbrev pub decreases-loop-rest : goal.decreases-loop-rest
decreases-loop-rest l = length l.rest
