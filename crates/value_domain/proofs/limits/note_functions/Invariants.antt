use Rattle.std.proofs.Common.{◌≡◌, drop}
use Rattle.value_domain.specs.Thresholds.{functions_noted}
use Rattle.value_domain.proofs.limits.note_functions.Given as goal

abbrev pub invariant-loop-at : goal.invariant-loop-at
invariant-loop-at l = functions_noted (drop l.at l.functions) l.found.items ≡ functions_noted l.fn.functions l.fn.found.items
