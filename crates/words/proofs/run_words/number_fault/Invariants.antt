use Rattle.std.proofs.Common.{◌≡◌, ◌+◌, map, drop}
use Rattle.words.specs.RunWords.{first_from, number_fault}
use Rattle.words.proofs.run_words.number_fault.Given as goal

abbrev pub invariant-loop-place : goal.invariant-loop-place
invariant-loop-place l = first_from l.word (map number_fault l.numbers) ≡ first_from (l.word + l.place) (map number_fault (drop l.place l.numbers))
