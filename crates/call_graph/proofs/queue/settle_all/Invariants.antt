use Rattle.std.proofs.Common.{◌≡◌, ℕ, List, drop}
use Rattle.call_graph.specs.Queue.{AreNodes, IsQueue}
use Rattle.call_graph.proofs.queue.settle_all.Given as goal

abbrev pub invariant-loop-node : goal.invariant-loop-node
invariant-loop-node l = record {
  standing : l.queue.standing.items ≡ l.initial.queue.standing.items;
  nodes : AreNodes l.queue.standing.items l.queue.ready l.queue.waiting.items l.queue.leaving.items;
  settled : (firsts : List ℕ) (between : ℕ → List ℕ) → IsQueue firsts between l.all l.initial.queue.standing.items l.initial.queue.ready l.initial.queue.waiting.items l.initial.queue.leaving.items
      → IsQueue firsts between (drop l.node-index l.all) l.queue.standing.items l.queue.ready l.queue.waiting.items l.queue.leaving.items;
}
