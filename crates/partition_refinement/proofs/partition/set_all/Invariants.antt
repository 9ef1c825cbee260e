use Rattle.std.proofs.Common.{take}
use Rattle.partition_refinement.specs.Splitting.{IsSet}
use Rattle.partition_refinement.proofs.partition.set_all.Given as goal

abbrev pub invariant-loop-item : goal.invariant-loop-item
invariant-loop-item l = IsSet l.initial.classes.items (take l.item-index l.items) l.class l.classes.items
