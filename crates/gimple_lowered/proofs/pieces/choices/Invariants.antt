use Rattle.std.proofs.Common.{◌≡◌, take}
use Rattle.gimple_lowered.specs.Names.{names_in}
use Rattle.gimple_lowered.specs.Lowered.{choices_of}
use Rattle.gimple_lowered.proofs.pieces.choices.Given as goal

abbrev pub invariant-loop-case : goal.invariant-loop-case
invariant-loop-case l = l.held ≡ choices_of (names_in l.scope) (take l.case-index l.cases)
