use Rattle.std.proofs.Common.{◌≡◌, drop}
use Rattle.value_domain.specs.Thresholds.{operands_noted}
use Rattle.value_domain.proofs.limits.note_operands.Given as goal

abbrev pub invariant-loop-at : goal.invariant-loop-at
invariant-loop-at l = operands_noted (drop l.at l.operands) l.found.items ≡ operands_noted l.fn.operands l.fn.found.items
