use Rattle.std.proofs.Common.{◌≡◌, ◌++◌}
use Rattle.call_graph.specs.Reached.{marked}
use Rattle.call_graph.proofs.reach.keep_marked.Given as goal

abbrev pub invariant-loop-function : goal.invariant-loop-function
invariant-loop-function l = l.kept.items ++ marked l.function-iterator.b.rest.now l.function-iterator.a.rest.items ≡ marked l.marks l.fn.functions.items
