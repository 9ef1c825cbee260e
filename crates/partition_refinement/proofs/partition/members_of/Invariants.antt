use Rattle.std.proofs.Common.{◌≡◌, length}
use Rattle.partition_refinement.specs.Splitting.{AreMembers}
use Rattle.partition_refinement.proofs.partition.members_of.Given as goal

abbrev pub invariant-loop-item : goal.invariant-loop-item
invariant-loop-item l = record {
  members : AreMembers l.classes l.members l.item;
  count : length l.members ≡ length l.classes;
}
