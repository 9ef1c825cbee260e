use Rattle.std.proofs.Common.{◌≡◌, drop}
use Rattle.value_domain.specs.AbsOperators.{some_traps}
use Rattle.value_domain.proofs.constant_operators.some_pair_traps.Given as goal

abbrev pub invariant-loop-at : goal.invariant-loop-at
invariant-loop-at l = some_traps l.mode l.op l.scalar (drop l.at l.left) l.right ≡ some_traps l.mode l.op l.scalar l.left l.right
