use Rattle.std.proofs.Common.{◌≡◌, ◌+◌, ◌<◌, ◌^◌, length, sum_by}
use Rattle.gimple_ir.specs.Size.{size_of_block}
use Rattle.gimple_types.proofs.counts.size_of_function.Given as goal

abbrev pub invariant-loop-rest : goal.invariant-loop-rest
invariant-loop-rest l = (l.size < 2 ^ 32) × (l.size + sum_by size_of_block l.rest ≡ sum_by size_of_block l.fn.function.blocks)

abbrev pub decreases-loop-rest : goal.decreases-loop-rest
decreases-loop-rest l = length l.rest
