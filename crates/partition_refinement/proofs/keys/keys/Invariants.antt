use Rattle.std.proofs.Common.{◌≡◌, ◌++◌, length, drop}
use Rattle.partition_refinement.specs.Stages.{keys_of}
use Rattle.partition_refinement.proofs.keys.keys.Given as goal

abbrev pub invariant-loop-item : goal.invariant-loop-item
invariant-loop-item l = record {
  made : l.keys ++ keys_of (λ row. row.items) l.classes l.item (drop l.item l.rows) ≡ keys_of (λ row. row.items) l.classes 0 l.rows;
  count : length l.keys ≡ l.item;
}
