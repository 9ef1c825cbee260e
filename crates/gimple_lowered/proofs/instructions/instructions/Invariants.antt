use Rattle.std.proofs.Common.{◌≡◌, take}
use Rattle.gimple_lowered.specs.Names.{names_in}
use Rattle.gimple_lowered.specs.Lowered.{instructions_of}
use Rattle.gimple_lowered.proofs.instructions.instructions.Given as goal

abbrev pub invariant-loop-statement : goal.invariant-loop-statement
invariant-loop-statement l = l.held ≡ instructions_of (names_in l.scope) (take l.statement-index l.statements)
