use Rattle.std.proofs.Common.{◌≡◌, ℕ, true, false, length, slice_index_or}
use Rattle.graph_walk.specs.Search.{IsSearch, work}
use Rattle.graph_walk.specs.Walk.{row_at}
use Rattle.graph_walk.proofs.search.search_from.Given as goal

abbrev pub invariant-loop-node : goal.invariant-loop-node
invariant-loop-node l = record {
  search : IsSearch (row_at l.rows) (length l.rows) l.search.marks.items l.search.followed.items l.search.path.items l.search.finished.items;
  kept : (a : ℕ) → slice_index_or l.fn.search.marks.items a false ≡ true → slice_index_or l.search.marks.items a false ≡ true;
  met : slice_index_or l.search.marks.items l.root false ≡ true;
}

abbrev pub decreases-loop-node : goal.decreases-loop-node
decreases-loop-node l = work l.search.marks.items l.search.path.items
