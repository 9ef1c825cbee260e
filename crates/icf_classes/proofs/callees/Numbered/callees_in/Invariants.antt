use Rattle.std.proofs.Common.{◌≡◌, ◌++◌, drop}
use Rattle.icf_classes.specs.Placed.{callees_in_blocks}
use Rattle.icf_classes.proofs.callees.Numbered.callees_in.Given as goal

abbrev pub invariant-loop-block : goal.invariant-loop-block
invariant-loop-block l = l.row.items ++ callees_in_blocks l.self (drop l.block-index l.blocks) ≡ callees_in_blocks l.self l.blocks
