use Rattle.std.proofs.Common.{◌≡◌, [], length}
use Rattle.call_graph.specs.Calls.{callees_in}
use Rattle.call_graph.specs.Firsts.{edges_between}
use Rattle.call_graph.specs.Queue.{AreNodes, IsQueue}
use Rattle.call_graph.specs.Walk.{unmarked}
use Rattle.call_graph.proofs.Sofar.{IsSoFar}
use Rattle.call_graph.proofs.order.order_of.Given as goal

abbrev pub invariant-loop-node : goal.invariant-loop-node
invariant-loop-node l = record {
  one_each : length l.queue.standing.items ≡ length l.firsts;
  nodes : AreNodes l.queue.standing.items l.queue.ready l.queue.waiting.items l.queue.leaving.items;
  queue : IsQueue l.firsts (callees_in (edges_between l.firsts l.edges)) [] l.queue.standing.items l.queue.ready l.queue.waiting.items l.queue.leaving.items;
  far : IsSoFar (callees_in l.edges) (length l.firsts) l.firsts l.order l.queue.standing.items;
}

abbrev pub decreases-loop-node : goal.decreases-loop-node
decreases-loop-node l = unmarked l.queue.standing.items
