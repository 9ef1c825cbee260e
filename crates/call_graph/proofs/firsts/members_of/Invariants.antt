use Rattle.std.proofs.Common.{◌≡◌, ◌==◌, ℕ, length, slice_index_or}
use Rattle.call_graph.specs.Walk.{row_at}
use Rattle.call_graph.specs.Firsts.{IsPart}
use Rattle.call_graph.proofs.firsts.members_of.Given as goal

abbrev pub invariant-loop-node : goal.invariant-loop-node
invariant-loop-node l = record {
  len : length l.members.items ≡ length l.firsts;
  each : (r : ℕ) → IsPart (λ m. r == slice_index_or l.firsts m 0) l.node (row_at l.members.items r);
}
