use Rattle.std.proofs.Common.{◌∙◌}
use Rattle.fix_board.proofs.Keeping.{back_undone}
use Rattle.fix_board.proofs.board.Board.take_copy.Goals as goal

pub returns-in-Err-clause-unchanged : goal.returns-in-Err-clause-unchanged
returns-in-Err-clause-unchanged g c =
    let back = rw c.in-Some.ensures.taken at c.give_back.ensures in
    back ∙ back_undone (g.V.Lattice.fits g.K.System.kind) g.V.Lattice.below g.K.System.equations c.args.self.now c.in-Some.edge c.known.ensures c.in-Some.ensures.next
