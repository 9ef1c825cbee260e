use Rattle.std.proofs.Common.{◌≡◌, drop}
use Rattle.words.specs.RunWords.{run_words_from, run_words_of}
use Rattle.words.proofs.run_words.read_run_words.Given as goal

abbrev pub invariant-loop-place : goal.invariant-loop-place
invariant-loop-place l = run_words_of l.words ≡ run_words_from l.settings l.place (drop l.place l.words)
