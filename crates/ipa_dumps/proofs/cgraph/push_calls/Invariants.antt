use Rattle.std.proofs.Common.{◌≡◌, ◌++◌, drop}
use Rattle.ipa_dumps.specs.Dumps.{calls_text}
use Rattle.ipa_dumps.proofs.cgraph.push_calls.Given as goal

abbrev pub invariant-loop-place : goal.invariant-loop-place
invariant-loop-place l =
    l.text ++ calls_text l.program (drop l.place-index l.places) l.rest ≡ l.fn.text ++ calls_text l.program l.places l.edges
