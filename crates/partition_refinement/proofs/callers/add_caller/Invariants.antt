use Rattle.std.proofs.Common.{take}
use Rattle.partition_refinement.specs.Splitting.{AddsCaller}
use Rattle.partition_refinement.proofs.callers.add_caller.Given as goal

abbrev pub invariant-loop-other : goal.invariant-loop-other
invariant-loop-other l = AddsCaller l.initial.callers l.item (take l.other-index l.row) l.callers
