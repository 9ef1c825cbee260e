use Rattle.std.proofs.Common.{◌≡◌, ℕ, ◌<◌, ◌≤◌, true, false, slice_index_or}
use Rattle.graph_walk.proofs.search.next_unmarked.Given as goal

abbrev pub invariant-loop-at : goal.invariant-loop-at
invariant-loop-at l = (k : ℕ) → l.from ≤ k → k < l.at → slice_index_or l.marks (slice_index_or l.row k 0) false ≡ true
