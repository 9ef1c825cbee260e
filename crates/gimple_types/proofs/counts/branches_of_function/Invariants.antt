use Rattle.std.proofs.Common.{◌≡◌, ◌+◌, ◌<◌, ◌^◌, length, sum_by}
use Rattle.gimple_ir.specs.declared.block.Block.{Block}
use Rattle.gimple_ir.specs.Size.{branches_of_end}
use Rattle.gimple_types.proofs.counts.branches_of_function.Given as goal

abbrev pub invariant-loop-rest : goal.invariant-loop-rest
invariant-loop-rest l = (l.branches < 2 ^ 32) × (l.branches + sum_by (λ (b : Block). branches_of_end b.end) l.rest ≡ sum_by (λ (b : Block). branches_of_end b.end) l.fn.function.blocks)

abbrev pub decreases-loop-rest : goal.decreases-loop-rest
decreases-loop-rest l = length l.rest
