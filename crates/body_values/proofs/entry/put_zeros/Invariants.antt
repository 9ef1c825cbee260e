use Rattle.std.proofs.Common.{◌≡◌, ◌++◌, map, drop}
use Rattle.body_values.specs.Flow.{zero_value}
use Rattle.body_values.proofs.entry.put_zeros.Given as goal

abbrev pub invariant-loop-at : goal.invariant-loop-at
invariant-loop-at l = l.row.items ++ map (zero_value l.limits.size l.limits.ends) (drop l.at l.registers) ≡ l.fn.row.items ++ map (zero_value l.limits.size l.limits.ends) l.registers
