use Rattle.std.proofs.Common.{◌≡◌, ◌++◌, take}
use Rattle.std.specs.List.{flat_map}
use Rattle.ipa_dumps.specs.Dumps.{call_text}
use Rattle.ipa_dumps.proofs.cgraph.push_edges.Given as goal

abbrev pub invariant-loop-edge : goal.invariant-loop-edge
invariant-loop-edge l = l.text ≡ l.fn.text ++ flat_map (call_text l.program) (take l.edge-index l.edges)
