use Rattle.fix_board.specs.Pieces.{ArePlaced}
use Rattle.fix_board.proofs.gated.no_pieces.Given as goal

abbrev pub invariant-loop-index : goal.invariant-loop-index
invariant-loop-index g l = ArePlaced (g.W.Work.pieces l._work) l.index l.places.items
