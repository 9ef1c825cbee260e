use Rattle.std.proofs.Common.{◌≡◌, take}
use Rattle.gimple_lowered.specs.Names.{names_in}
use Rattle.gimple_lowered.specs.Lowered.{sources_of}
use Rattle.gimple_lowered.proofs.sources.sources.Given as goal

abbrev pub invariant-loop-operand : goal.invariant-loop-operand
invariant-loop-operand l = l.held ≡ sources_of (names_in l.scope) (take l.operand-index l.operands)
