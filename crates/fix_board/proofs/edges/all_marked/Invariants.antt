use Rattle.std.proofs.Common.{◌≡◌, ℕ, ◌<◌, true, false, length, slice_index_or}
use Rattle.fix_board.proofs.edges.all_marked.Given as goal

abbrev pub invariant-loop-number : goal.invariant-loop-number
invariant-loop-number l = record {
  len : length l.marks ≡ l.count;
  each : (e : ℕ) → e < l.number → slice_index_or l.marks e false ≡ true;
}
