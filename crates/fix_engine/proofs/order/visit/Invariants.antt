use Rattle.std.proofs.Common.{◌≡◌, ◌+◌, ◌<◌, ◌≤◌, IfSome}
use Rattle.fix_engine.specs.Solving.{IsVisiting, work_left, visits_left, follows_left, all_left, some_left}
use Rattle.fix_engine.proofs.order.visit.Given as goal

abbrev pub invariant-loop-next : goal.invariant-loop-next
invariant-loop-next g l =
    let s = g.F.Flow.equations l.flow in
    let lat = g.F.Value.Lattice in
    let k = g.F.Flow.kind l.flow in
    record {
      is_edge : IfSome l.next (λ e. e < s.edges);
      is_from : IfSome l.next (λ e. s.source e ≡ l.node);
      state : IsVisiting (lat.fits k) lat.below s l.values.items l.waiting (some_left s l.node l.next);
      began : l.initial.steps ≤ l.steps;
      cost : l.steps + work_left (lat.rank k) s l.values.items (follows_left s l.waiting (some_left s l.node l.next)) ≤ l.initial.steps + work_left (lat.rank k) s l.initial.values.items (follows_left s l.initial.waiting (all_left s l.node));
      visits : visits_left (lat.rank k) s l.values.items l.waiting ≤ visits_left (lat.rank k) s l.initial.values.items l.initial.waiting;
    }

abbrev pub decreases-loop-next : goal.decreases-loop-next
decreases-loop-next g l =
    let s = g.F.Flow.equations l.flow in
    work_left (g.F.Value.Lattice.rank (g.F.Flow.kind l.flow)) s l.values.items (follows_left s l.waiting (some_left s l.node l.next))
