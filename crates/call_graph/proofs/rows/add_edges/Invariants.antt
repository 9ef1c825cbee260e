use Rattle.std.proofs.Common.{◌≡◌, ℕ, ◌++◌, length, drop}
use Rattle.call_graph.specs.Walk.{row_at}
use Rattle.call_graph.specs.Calls.{callees_in}
use Rattle.call_graph.proofs.rows.add_edges.Given as goal

abbrev pub invariant-loop-edge : goal.invariant-loop-edge
invariant-loop-edge l = record {
  len : length l.rows.items ≡ length l.initial.rows.items;
  rows : (a : ℕ) → row_at l.rows.items a ++ callees_in (drop l.edge-index l.edges) a ≡ row_at l.initial.rows.items a ++ callees_in l.edges a;
}
