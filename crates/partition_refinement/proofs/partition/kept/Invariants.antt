use Rattle.std.proofs.Common.{◌≡◌, take, filter}
use Rattle.partition_refinement.specs.Splitting.{is_of}
use Rattle.partition_refinement.proofs.partition.kept.Given as goal

abbrev pub invariant-loop-item : goal.invariant-loop-item
invariant-loop-item l = l.kept.items ≡ filter (is_of l.classes l.class) (take l.item-index l.items)
