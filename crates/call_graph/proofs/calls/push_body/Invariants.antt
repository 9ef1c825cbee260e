use Rattle.std.proofs.Common.{◌≡◌, ◌++◌, drop, map}
use Rattle.call_graph.specs.Calls.{body_edges}
use Rattle.call_graph.proofs.calls.push_body.Given as goal

abbrev pub invariant-loop-index : goal.invariant-loop-index
invariant-loop-index l = l.edges ++ body_edges (map (λ f. f.name) l.callees) l.function l.block l.index (drop l.index l.body) ≡ l.initial.edges ++ body_edges (map (λ f. f.name) l.callees) l.function l.block 0 l.body
