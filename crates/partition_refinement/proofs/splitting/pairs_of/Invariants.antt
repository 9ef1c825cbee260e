use Rattle.std.proofs.Common.{◌≡◌, ℕ, ◌<◌, length, slice_get, Some}
use Rattle.partition_refinement.specs.Relations.{class_of}
use Rattle.partition_refinement.specs.Splitting.{pair_of}
use Rattle.partition_refinement.proofs.splitting.pairs_of.Given as goal

abbrev pub invariant-loop-item : goal.invariant-loop-item
invariant-loop-item l = record {
  count : length l.pairs ≡ l.item;
  each : (k : ℕ) → k < l.item → slice_get l.pairs k ≡ Some (pair_of (class_of l.classes k) (class_of l.plain k));
}
