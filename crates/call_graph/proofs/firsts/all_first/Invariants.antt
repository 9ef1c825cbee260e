use Rattle.std.proofs.Common.{◌==◌, slice_index_or}
use Rattle.call_graph.specs.Firsts.{IsPart}
use Rattle.call_graph.proofs.firsts.all_first.Given as goal

abbrev pub invariant-loop-node : goal.invariant-loop-node
invariant-loop-node l = IsPart (λ m. slice_index_or l.firsts m 0 == m) l.node l.found.items
