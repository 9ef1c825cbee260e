use Rattle.std.proofs.Common.{length}
use Rattle.call_graph.specs.Queue.{AreTrimmed}
use Rattle.call_graph.proofs.queue.trim.Given as goal

abbrev pub invariant-loop-target : goal.invariant-loop-target
invariant-loop-target l = AreTrimmed l.standing l.initial.targets.items l.targets.items

abbrev pub decreases-loop-target : goal.decreases-loop-target
decreases-loop-target l = length l.targets.items
