use Rattle.std.proofs.Common.{◌≡◌, map, take}
use Rattle.words.specs.RunWords.{number_or_zero}
use Rattle.words.proofs.run_words.numbers_of.Given as goal

abbrev pub invariant-loop-word : goal.invariant-loop-word
invariant-loop-word l = l.numbers.items ≡ map number_or_zero (take l.word-index l.words)
