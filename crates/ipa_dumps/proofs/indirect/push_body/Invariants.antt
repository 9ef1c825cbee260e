use Rattle.std.proofs.Common.{◌≡◌, ◌++◌, drop}
use Rattle.ipa_dumps.specs.IndirectCalls.{body_places}
use Rattle.ipa_dumps.proofs.indirect.push_body.Given as goal

abbrev pub invariant-loop-index : goal.invariant-loop-index
invariant-loop-index l = l.places ++ body_places l.function l.block l.index (drop l.index l.body) ≡ l.initial.places ++ body_places l.function l.block 0 l.body
