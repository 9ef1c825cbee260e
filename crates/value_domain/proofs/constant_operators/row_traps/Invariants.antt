use Rattle.std.proofs.Common.{◌≡◌, drop}
use Rattle.value_domain.specs.AbsOperators.{row_traps_of}
use Rattle.value_domain.proofs.constant_operators.row_traps.Given as goal

abbrev pub invariant-loop-at : goal.invariant-loop-at
invariant-loop-at l = row_traps_of l.mode l.op l.scalar l.left (drop l.at l.right) ≡ row_traps_of l.mode l.op l.scalar l.left l.right
