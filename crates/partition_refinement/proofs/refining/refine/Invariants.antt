use Rattle.std.proofs.Common.{map}
use Rattle.partition_refinement.specs.Stages.{IsStage}
use Rattle.partition_refinement.proofs.Ending.{left_from}
use Rattle.partition_refinement.proofs.refining.refine.Given as goal

abbrev pub invariant-loop-classes : goal.invariant-loop-classes
invariant-loop-classes l = IsStage l.first (map (λ row. row.items) l.rows) l.classes.items

abbrev pub decreases-loop-classes : goal.decreases-loop-classes
decreases-loop-classes l = left_from 0 l.classes.items
