use Rattle.std.proofs.Common.{◌≡◌, map, take}
use Rattle.icf_classes.specs.Merged.{sent_block}
use Rattle.icf_classes.specs.Mergers.{sent_in}
use Rattle.icf_classes.proofs.merger.Merger.blocks.Given as goal

abbrev pub invariant-loop-block : goal.invariant-loop-block
invariant-loop-block l = l.made ≡ map (sent_block (sent_in l.self)) (take l.block-index l.blocks)
