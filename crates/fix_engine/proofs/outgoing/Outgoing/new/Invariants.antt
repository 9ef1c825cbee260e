use Rattle.std.proofs.Common.{◌≡◌, ◌≤◌, length}
use Rattle.fix_engine.specs.Outgoing.{AreLinks}
use Rattle.fix_engine.proofs.outgoing.Outgoing.new.Given as goal

abbrev pub invariant-loop-edge : goal.invariant-loop-edge
invariant-loop-edge l = record {
  few : l.edge ≤ length l.sources.items;
  nodes_each : length l.first.items ≡ l.nodes;
  links : AreLinks l.sources.items l.first.items l.next.items l.edge;
}

abbrev pub decreases-loop-edge : goal.decreases-loop-edge
decreases-loop-edge l = l.edge
