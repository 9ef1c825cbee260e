use Rattle.std.proofs.Common.{◌≡◌, take}
use Rattle.gimple_lowered.specs.Names.{names_in}
use Rattle.gimple_lowered.specs.Lowered.{pieces_of}
use Rattle.gimple_lowered.proofs.pieces.pieces.Given as goal

abbrev pub invariant-loop-block : goal.invariant-loop-block
invariant-loop-block l = l.held ≡ pieces_of (names_in l.scope) (take l.block-index l.blocks)
