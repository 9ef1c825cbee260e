use Rattle.std.proofs.Common.{◌≡◌}
use Rattle.fix_board.specs.Pieces.{ArePlaced, pieces_below}
use Rattle.fix_board.proofs.gated.finish.Given as goal

abbrev pub invariant-loop-index : goal.invariant-loop-index
invariant-loop-index g l = record {
  placed : ArePlaced (g.W.Work.pieces l.work) l.count l.places.items;
  so_far : l.pieces.items ≡ pieces_below (g.W.Work.pieces l.work) l.index;
}
