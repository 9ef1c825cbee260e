use Rattle.fix_engine.specs.Solving.{work_left}
use Rattle.fix_board.specs.Board.{AreHome, dirt}
use Rattle.fix_board.proofs.board.Board.drain.Given as goal

abbrev pub invariant-loop : goal.invariant-loop
invariant-loop g l = AreHome l.self (g.F.Flow.equations l.flow).edges

abbrev pub decreases-loop : goal.decreases-loop
decreases-loop g l = work_left (g.V.Lattice.rank g.K.System.kind) (g.F.Flow.equations l.flow) l.self.values (dirt l.self)
