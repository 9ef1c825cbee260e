use Rattle.std.proofs.Common.{◌≡◌, ◌++◌, drop}
use Rattle.ipa_dumps.specs.IndirectCalls.{function_places}
use Rattle.ipa_dumps.proofs.indirect.push_functions.Given as goal

abbrev pub invariant-loop-number : goal.invariant-loop-number
invariant-loop-number l = l.places ++ function_places l.number (drop l.number l.functions) ≡ l.initial.places ++ function_places 0 l.functions
