use Rattle.std.proofs.Common.{◌≡◌, take}
use Rattle.gimple_lowered.specs.Names.{labels_of}
use Rattle.gimple_lowered.proofs.pieces.labels_of.Given as goal

abbrev pub invariant-loop-block : goal.invariant-loop-block
invariant-loop-block l = l.labels ≡ labels_of (take l.block-index l.blocks)
