use Rattle.std.proofs.Common.{sym, refl, ◌∙◌}
use Rattle.fix_board.specs.Board.{State}
use Rattle.fix_board.proofs.Keeping.{board_source_fits, may_dirty, may_last}
use Rattle.fix_board.proofs.board.Board.may_post.Goals as goal

pub leq-requires : goal.leq-requires
leq-requires g c =
    let i = c.self.inside in
    let b : State g.row.V.Denot = record { values = i.values.items; dirty = i.edges.dirty; out = i.edges.out } in (
      g.K.System.kind,
      c.requires.fits,
      board_source_fits g.met.V.Lattice.laws g.K.System.kind g.K.System.equations b i.outgoing i.targets.items c.args.edge c.source.result c.index-source.result.now
          c.self.invariant c.requires.edge c.source.ensures c.index-source.ensures,
    )

pub leq-requires-2 : goal.leq-requires-2
leq-requires-2 g c =
    let i = c.self.inside in
    let b : State g.row.V.Denot = record { values = i.values.items; dirty = i.edges.dirty; out = i.edges.out } in (
      g.K.System.kind,
      board_source_fits g.met.V.Lattice.laws g.K.System.kind g.K.System.equations b i.outgoing i.targets.items c.args.edge c.source.result c.index-source.result.now
          c.self.invariant c.requires.edge c.source.ensures c.index-source.ensures,
      c.requires.fits,
    )

pub returns-then-is_dirty : goal.returns-then-is_dirty
returns-then-is_dirty g c =
    let i = c.self.inside in
    let b : State g.row.V.Denot = record { values = i.values.items; dirty = i.edges.dirty; out = i.edges.out } in
    let can = may_dirty (g.V.Lattice.fits g.K.System.kind) g.V.Lattice.below g.K.System.equations b i.outgoing i.targets.items c.args.edge c.source.result c.index-source.result.now c.args.from.now
    c.self.invariant c.requires.edge c.source.ensures c.index-source.ensures c.requires.fits (sym c.if-not-leq.ensures) (λ none. c.if-times-eq0.false (c.times_out-times.ensures ∙ none)) (sym c.if-is_dirty.ensures) in
    (λ _. rw (← c.self.view_is) can, λ _. refl)

pub returns : goal.returns
returns g c =
    let i = c.self.inside in
    let b : State g.row.V.Denot = record { values = i.values.items; dirty = i.edges.dirty; out = i.edges.out } in
    let few = rw c.times_out-times.ensures at c.if-times-gt1.false in
    rw (← c.self.view_is) (may_last g.met.V.Lattice.laws g.K.System.kind g.K.System.equations b i.outgoing i.targets.items c.args.edge c.source.result c.leq-2.result c.index-source.result.now c.args.from.now
    c.self.invariant c.requires.edge c.source.ensures c.index-source.ensures c.requires.fits (sym c.if-not-leq.ensures) (λ none. c.if-times-eq0.false (c.times_out-times.ensures ∙ none)) (sym c.if-is_dirty.ensures) few c.leq-2.ensures)
