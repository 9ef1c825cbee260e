use Rattle.fix_board.proofs.Keeping.{board_new}
use Rattle.fix_board.proofs.board.Board.new.Goals as goal

pub invariant_of-result : goal.invariant_of-result
invariant_of-result g c =
    let flow = c.args.flow.now in
    board_new g.met.V.Lattice.laws (g.F.Flow.kind flow) g.K.System.kind (g.F.Flow.equations flow) g.K.System.equations (g.met.F.Flow.laws flow) c.in_ok-values.values.items c.in_ok-edges.edges c.edges.result c.in_ok-outgoing.outgoing c.in_ok-targets.targets.items
    c.requires.named c.requires.kind c.edges.ensures c.in_ok-values.ensures c.in_ok-edges.ensures c.in_ok-outgoing.ensures c.in_ok-targets.ensures
