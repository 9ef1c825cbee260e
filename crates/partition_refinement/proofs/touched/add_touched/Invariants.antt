use Rattle.std.proofs.Common.{take}
use Rattle.partition_refinement.specs.Splitting.{Gathers, TouchedBy}
use Rattle.partition_refinement.proofs.touched.add_touched.Given as goal

abbrev pub invariant-loop-class : goal.invariant-loop-class
invariant-loop-class l = Gathers (TouchedBy l.partition l.callers) (take l.class-index l.work) l.initial.items.keys l.items.keys
