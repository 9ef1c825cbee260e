use Rattle.std.proofs.Common.{◌≡◌, ℕ, [], length}
use Rattle.call_graph.specs.Walk.{row_at}
use Rattle.call_graph.proofs.rows.empty_rows.Given as goal

abbrev pub invariant-loop-node : goal.invariant-loop-node
invariant-loop-node l = record {
  len : length l.rows.items ≡ l._node;
  rows : (a : ℕ) → row_at l.rows.items a ≡ [];
}
