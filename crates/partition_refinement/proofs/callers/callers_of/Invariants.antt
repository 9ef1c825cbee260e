use Rattle.std.proofs.Common.{◌≡◌, map, length}
use Rattle.partition_refinement.specs.Splitting.{AreCallers}
use Rattle.partition_refinement.proofs.callers.callers_of.Given as goal

abbrev pub invariant-loop-item : goal.invariant-loop-item
invariant-loop-item l = record {
  callers : AreCallers (map (λ row. row.items) l.rows) l.item l.callers;
  count : length l.callers ≡ length l.rows;
}
