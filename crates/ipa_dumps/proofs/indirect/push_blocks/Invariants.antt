use Rattle.std.proofs.Common.{◌≡◌, ◌++◌, drop}
use Rattle.ipa_dumps.specs.IndirectCalls.{block_places}
use Rattle.ipa_dumps.proofs.indirect.push_blocks.Given as goal

abbrev pub invariant-loop-number : goal.invariant-loop-number
invariant-loop-number l = l.places ++ block_places l.function l.number (drop l.number l.blocks) ≡ l.initial.places ++ block_places l.function 0 l.blocks
