use Rattle.std.proofs.Common.{vec_len}
use Rattle.fix_board.specs.Pieces.{AreDrawn, ArePlaced}
use Rattle.fix_board.proofs.gated.place_all.Given as goal

abbrev pub invariant-loop-drawn : goal.invariant-loop-drawn
invariant-loop-drawn g l = record {
  placed : ArePlaced (g.W.Work.pieces l._work) l.count l.places.items;
  drawn : AreDrawn (g.W.Work.pieces l._work) l.count l.list.items;
}

abbrev pub decreases-loop-drawn : goal.decreases-loop-drawn
decreases-loop-drawn g l = vec_len l.list
