use Rattle.std.proofs.Common.{◌-◌}
use Rattle.value_domain.specs.RangeOperators.{Searched}
use Rattle.value_domain.proofs.thresholds.count_up_to.Given as goal

abbrev pub invariant-loop-low : goal.invariant-loop-low
invariant-loop-low l = Searched l.thresholds l.low l.high l.value

abbrev pub decreases-loop-low : goal.decreases-loop-low
decreases-loop-low l = l.high - l.low
