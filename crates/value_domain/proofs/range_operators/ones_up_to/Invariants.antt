use Rattle.std.proofs.Common.{◌≡◌, ◌-◌}
use Rattle.value_domain.specs.RangeOperators.{ones_from}
use Rattle.value_domain.proofs.range_operators.ones_up_to.Given as goal

abbrev pub invariant-loop-bit : goal.invariant-loop-bit
invariant-loop-bit l = ones_from (64 - l.bit) l.bit l.value ≡ ones_from 64 0 l.value
