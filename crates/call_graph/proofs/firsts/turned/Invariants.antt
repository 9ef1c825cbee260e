use Rattle.std.proofs.Common.{◌≡◌, ◌++◌, drop}
use Rattle.call_graph.specs.Firsts.{turned}
use Rattle.call_graph.proofs.firsts.turned.Given as goal

abbrev pub invariant-loop-edge : goal.invariant-loop-edge
invariant-loop-edge l = l.around.items ++ turned (drop l.edge-index l.edges) ≡ turned l.edges
