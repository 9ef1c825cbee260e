use Rattle.std.proofs.Common.{◌≡◌, ℕ, ◌<◌, length, map, get_or, slice_get, Some}
use Rattle.partition_refinement.specs.Relations.{row_of}
use Rattle.partition_refinement.specs.Stages.{key_of}
use Rattle.partition_refinement.proofs.groups.numbers_of.Given as goal

abbrev pub invariant-loop-item : goal.invariant-loop-item
invariant-loop-item l = record {
  count : length l.keys ≡ l.item-index;
  each : (k : ℕ) → k < l.item-index → slice_get l.keys k ≡ Some (key_of l.classes (get_or l.items k 0) (row_of (map (λ row. row.items) l.rows) (get_or l.items k 0)));
}
