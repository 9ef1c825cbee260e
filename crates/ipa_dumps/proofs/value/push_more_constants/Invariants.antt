use Rattle.std.proofs.Common.{◌≡◌, ◌++◌, take}
use Rattle.std.specs.List.{flat_map}
use Rattle.ipa_dumps.specs.ValueTexts.{next_constant}
use Rattle.ipa_dumps.proofs.value.push_more_constants.Given as goal

abbrev pub invariant-loop-constant : goal.invariant-loop-constant
invariant-loop-constant l = l.text ≡ l.fn.text ++ flat_map (next_constant l.program) (take l.constant-index l.constants)
