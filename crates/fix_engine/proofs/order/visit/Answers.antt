use Rattle.std.proofs.Common.{arith}
use Rattle.fix_engine.proofs.Visits.{visit_first, visit_next, visit_work}
use Rattle.fix_engine.proofs.order.visit.Goals as goal

pub loop-next-init : goal.loop-next-init
loop-next-init g c =
    let s = g.F.Flow.equations c.args.flow.now in
    let k = g.F.Flow.kind c.args.flow.now in
    let first = visit_first g.met.F.Value.Lattice.laws k s (g.met.F.Flow.laws c.args.flow.now) c.args.outgoing.now c.requires.sources c.args.node c.args.values.now.items c.args.waiting.now c.requires.state c.first-next.result c.first-next.ensures in
    record {
      is_edge = first.0.is_edge;
      is_from = first.0.is_from;
      state = first.0.state;
      began = omega arith;
      cost = let less = first.1 in omega (arith, less);
      visits = omega arith;
    }

pub loop-next-smaller : goal.loop-next-smaller
loop-next-smaller g c =
    let s = g.F.Flow.equations c.args.flow.now in
    let k = g.F.Flow.kind c.args.flow.now in
    let i = c.loop-next.invariant in
    let next = visit_next g.met.F.Value.Lattice.laws k s (g.met.F.Flow.laws c.args.flow.now) c.args.outgoing.now c.requires.sources c.args.node c.loop-next.values.items c.loop-next.waiting
    c.loop-next.next (record { is_edge = i.is_edge; is_from = i.is_from; state = i.state }) c.in-Some.edge c.in-Some.is c.follow.new.values.items c.follow.new.waiting c.in_ok-follow.ensures c.next-next.result c.next-next.ensures in
    next.1

pub loop-next-preserved : goal.loop-next-preserved
loop-next-preserved g c =
    let s = g.F.Flow.equations c.args.flow.now in
    let k = g.F.Flow.kind c.args.flow.now in
    let i = c.loop-next.invariant in
    let next = visit_next g.met.F.Value.Lattice.laws k s (g.met.F.Flow.laws c.args.flow.now) c.args.outgoing.now c.requires.sources c.args.node c.loop-next.values.items c.loop-next.waiting
    c.loop-next.next (record { is_edge = i.is_edge; is_from = i.is_from; state = i.state }) c.in-Some.edge c.in-Some.is c.follow.new.values.items c.follow.new.waiting c.in_ok-follow.ensures c.next-next.result c.next-next.ensures in
    record {
      is_edge = next.0.is_edge;
      is_from = next.0.is_from;
      state = next.0.state;
      began = omega (arith, i.began, c.tick.ensures);
      cost = let less = next.1 in omega (arith, i.cost, less, c.tick.ensures);
      visits = let fewer = next.2 in omega (arith, i.visits, fewer);
    }

pub returns-in_err-follow-clause-bound : goal.returns-in_err-follow-clause-bound
returns-in_err-follow-clause-bound g c =
    let s = g.F.Flow.equations c.args.flow.now in
    let k = g.F.Flow.kind c.args.flow.now in
    let i = c.loop-next.invariant in
    let some = visit_work g.met.F.Value.Lattice.laws k s (g.met.F.Flow.laws c.args.flow.now) c.args.outgoing.now c.requires.sources c.args.node c.loop-next.values.items c.loop-next.waiting
    c.loop-next.next (record { is_edge = i.is_edge; is_from = i.is_from; state = i.state }) c.in-Some.edge c.in-Some.is in
    omega (arith, i.cost, some, c.tick.ensures)
