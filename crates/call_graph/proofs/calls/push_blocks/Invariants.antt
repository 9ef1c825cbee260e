use Rattle.std.proofs.Common.{◌≡◌, ◌++◌, drop, map}
use Rattle.call_graph.specs.Calls.{block_edges}
use Rattle.call_graph.proofs.calls.push_blocks.Given as goal

abbrev pub invariant-loop-number : goal.invariant-loop-number
invariant-loop-number l = l.edges ++ block_edges (map (λ f. f.name) l.callees) l.function l.number (drop l.number l.blocks) ≡ l.initial.edges ++ block_edges (map (λ f. f.name) l.callees) l.function 0 l.blocks
