use Rattle.std.proofs.Common.{All, IfOk, vec_len}
use Rattle.fix_board.specs.Pieces.{AreDrawn, ArePlaced}
use Rattle.fix_board.proofs.gated.map_gated.Given as goal

abbrev pub invariant-loop-list : goal.invariant-loop-list
invariant-loop-list g l = record {
  placed : ArePlaced (g.W.Work.pieces l.work) l.count l.places.items;
  drawn : All (λ r. IfOk r (λ v. AreDrawn (g.W.Work.pieces l.work) l.count v.items)) l.lists.items;
}

abbrev pub decreases-loop-list : goal.decreases-loop-list
decreases-loop-list g l = vec_len l.lists
