use Rattle.std.proofs.Common.{◌≡◌, ℕ, false, length, slice_index_or}
use Rattle.graph_walk.proofs.walk.all_false.Given as goal

abbrev pub invariant-loop-at : goal.invariant-loop-at
invariant-loop-at l = record {
  len : length l.marks.items ≡ l._at;
  each : (a : ℕ) → slice_index_or l.marks.items a false ≡ false;
}
