use Rattle.std.proofs.Common.{◌≡◌, drop, length}
use Rattle.graph_walk.specs.Walk.{met}
use Rattle.graph_walk.proofs.walk.meet.Given as goal

abbrev pub invariant-loop-node : goal.invariant-loop-node
invariant-loop-node l = record {
  same : length l.marks.items ≡ length l.initial.marks.items;
  left : met (drop l.node-index l.row) (record { marks = l.marks.items; nodes = l.nodes.items }) ≡ met l.row (record { marks = l.initial.marks.items; nodes = l.initial.nodes.items });
}
