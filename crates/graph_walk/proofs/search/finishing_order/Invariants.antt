use Rattle.std.proofs.Common.{◌≡◌, ℕ, ◌<◌, true, false, [], length, slice_index_or}
use Rattle.graph_walk.specs.Search.{IsSearch}
use Rattle.graph_walk.specs.Walk.{row_at}
use Rattle.graph_walk.proofs.search.finishing_order.Given as goal

abbrev pub invariant-loop-root : goal.invariant-loop-root
invariant-loop-root l = record {
  search : IsSearch (row_at l.rows) (length l.rows) l.search.marks.items l.search.followed.items l.search.path.items l.search.finished.items;
  path : l.search.path.items ≡ [];
  met : (a : ℕ) → a < l.root → slice_index_or l.search.marks.items a false ≡ true;
}
