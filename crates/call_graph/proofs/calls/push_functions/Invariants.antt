use Rattle.std.proofs.Common.{◌≡◌, ◌++◌, drop, map}
use Rattle.call_graph.specs.Calls.{function_edges}
use Rattle.call_graph.proofs.calls.push_functions.Given as goal

abbrev pub invariant-loop-number : goal.invariant-loop-number
invariant-loop-number l = l.edges ++ function_edges (map (λ f. f.name) l.callees) l.number (drop l.number l.functions) ≡ l.initial.edges ++ function_edges (map (λ f. f.name) l.callees) 0 l.functions
