use Rattle.std.proofs.Common.{take}
use Rattle.partition_refinement.specs.Splitting.{Gathers, IsIn}
use Rattle.partition_refinement.proofs.touched.add_callers.Given as goal

abbrev pub invariant-loop-item : goal.invariant-loop-item
invariant-loop-item l = Gathers (IsIn l.callers) (take l.item-index l.called) l.initial.items.keys l.items.keys
