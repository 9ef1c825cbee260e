use Rattle.std.proofs.Common.{◌≡◌, length}
use Rattle.partition_refinement.specs.Splitting.{IsGrouping}
use Rattle.partition_refinement.proofs.groups.grouped.Given as goal

abbrev pub invariant-loop-place : goal.invariant-loop-place
invariant-loop-place l = record {
  groups : IsGrouping l.items l.numbers l.place l.groups;
  count : length l.groups ≡ length l.items;
}
