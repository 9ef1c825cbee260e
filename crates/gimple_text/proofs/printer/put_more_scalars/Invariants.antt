use Rattle.std.proofs.Common.{◌≡◌, ◌++◌, length}
use Rattle.gimple_text.specs.Canon.{more_text, scalar_text}
use Rattle.gimple_text.proofs.printer.put_more_scalars.Given as goal

abbrev pub invariant-loop-rest : goal.invariant-loop-rest
invariant-loop-rest l = l.out ++ more_text scalar_text l.rest ≡ l.fn.out ++ more_text scalar_text l.fn.scalars

abbrev pub decreases-loop-rest : goal.decreases-loop-rest
decreases-loop-rest l = length l.rest
