use Rattle.fix_board.specs.Pieces.{AreDrawn}
use Rattle.fix_board.proofs.gated.gather.Given as goal

abbrev pub invariant-loop-turn : goal.invariant-loop-turn
invariant-loop-turn g l = AreDrawn (g.W.Work.pieces l.work) l.count l.found.items
