use Rattle.std.proofs.Common.{◌≡◌, ◌<◌, IsSomeAnd, length, arith}
use Rattle.fix_board.specs.Board.{State, CanPost}
use Rattle.fix_board.proofs.Keeping.{board_post, board_posts, board_edge}
use Rattle.fix_board.proofs.board.Board.post.Goals as goal

pub come_home-requires-clause-edge : goal.come_home-requires-clause-edge
come_home-requires-clause-edge g c =
    let i = c.self.inside in
    let b : State g.row.V.Denot = record { values = i.values.items; dirty = i.edges.dirty; out = i.edges.out } in
    let can : IsSomeAnd g.K.System.equations (λ s. CanPost (g.V.Lattice.fits g.K.System.kind) g.V.Lattice.below s b c.args.edge c.args.from.now) = rw c.self.view_is c.requires.can in
    let lt : c.args.edge < length i.edges.dirty = board_edge (g.V.Lattice.fits g.K.System.kind) g.V.Lattice.below g.K.System.equations b i.outgoing i.targets.items c.args.edge c.args.from.now c.self.invariant can in
    let marks = c.in_default.ensures.dirty c.args.found in
    omega (arith, lt, marks.same_length)

pub returns-clause-ok : goal.returns-clause-ok
returns-clause-ok g c =
    let i = c.self.inside in
    let b : State g.row.V.Denot = record { values = i.values.items; dirty = i.edges.dirty; out = i.edges.out } in
    let can : IsSomeAnd g.K.System.equations (λ s. CanPost (g.V.Lattice.fits g.K.System.kind) g.V.Lattice.below s b c.args.edge c.args.from.now) = rw c.self.view_is c.requires.can in
    rw (← c.self.view_is) (board_posts (g.V.Lattice.fits g.K.System.kind) g.V.Lattice.below g.V.Lattice.joined g.K.System.equations b i.outgoing i.targets.items c.args.edge c.index-target.result.now c.args.from.now c.args.found
    c.join_into.new.values.items c.join_into.new.edges c.come_home.new.self c.self.invariant can c.index-target.ensures c.requires.found c.in_default.ensures.values c.in_default.ensures.dirty c.in_default.ensures.out c.come_home.ensures)

pub invariant_of-self-2 : goal.invariant_of-self-2
invariant_of-self-2 g c =
    let i = c.self.inside in
    let b : State g.row.V.Denot = record { values = i.values.items; dirty = i.edges.dirty; out = i.edges.out } in
    let can : IsSomeAnd g.K.System.equations (λ s. CanPost (g.V.Lattice.fits g.K.System.kind) g.V.Lattice.below s b c.args.edge c.args.from.now) = rw c.self.view_is c.requires.can in
    let posts = board_posts (g.V.Lattice.fits g.K.System.kind) g.V.Lattice.below g.V.Lattice.joined g.K.System.equations b i.outgoing i.targets.items c.args.edge c.index-target.result.now c.args.from.now c.args.found
    c.join_into.new.values.items c.join_into.new.edges c.come_home.new.self c.self.invariant can c.index-target.ensures c.requires.found c.in_default.ensures.values c.in_default.ensures.dirty c.in_default.ensures.out c.come_home.ensures in
    board_post g.met.V.Lattice.laws g.K.System.kind g.K.System.equations b i.outgoing i.targets.items c.self.invariant c.args.edge c.args.from.now
    (record { values = c.join_into.new.values.items; dirty = c.come_home.new.self.dirty; out = c.come_home.new.self.out }) can posts
