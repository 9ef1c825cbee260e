use Rattle.std.proofs.Common.{◌≡◌, ℕ, ◌<◌, length, slice_index_or}
use Rattle.std.specs.List.{Contains}
use Rattle.graph_walk.proofs.components.place_least.Given as goal

abbrev pub invariant-loop-node : goal.invariant-loop-node
invariant-loop-node l = record {
  same : length l.firsts.items ≡ length l.initial.firsts.items;
  done : (k : ℕ) → k < l.node-index → slice_index_or l.firsts.items (slice_index_or l.nodes k 0) 0 ≡ l.first;
  others : (a : ℕ) → (Contains l.nodes a → ⊥) → slice_index_or l.firsts.items a 0 ≡ slice_index_or l.initial.firsts.items a 0;
}
