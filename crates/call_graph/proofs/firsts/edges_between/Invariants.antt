use Rattle.std.proofs.Common.{◌≡◌, ◌++◌, drop}
use Rattle.call_graph.specs.Firsts.{edges_between}
use Rattle.call_graph.proofs.firsts.edges_between.Given as goal

abbrev pub invariant-loop-edge : goal.invariant-loop-edge
invariant-loop-edge l = l.between.items ++ edges_between l.firsts (drop l.edge-index l.edges) ≡ edges_between l.firsts l.edges
