use Rattle.std.proofs.Common.{◌≡◌, map, take}
use Rattle.gimple_ir.specs.declared.block.Block.{Block}
use Rattle.block_flow.proofs.branching.block_labels.Given as goal

abbrev pub invariant-loop-at : goal.invariant-loop-at
invariant-loop-at l = l.labels ≡ map (λ (b : Block). b.label) (take l.at l.blocks)
