use Rattle.std.proofs.Common.{◌≡◌, drop, map}
use Rattle.icf_classes.specs.Placed.{placed_block}
use Rattle.icf_classes.specs.Codes.{code_items, code_block}
use Rattle.icf_classes.proofs.placer.Placer.put_each_block.Given as goal

abbrev pub invariant-loop-block : goal.invariant-loop-block
invariant-loop-block l = code_items code_block (map (placed_block l.self) (drop l.block-index l.blocks)) l.row ≡ code_items code_block (map (placed_block l.self) l.blocks) l.initial.row
