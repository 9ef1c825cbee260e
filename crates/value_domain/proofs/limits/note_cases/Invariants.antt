use Rattle.std.proofs.Common.{◌≡◌, drop}
use Rattle.value_domain.specs.Thresholds.{cases_noted}
use Rattle.value_domain.proofs.limits.note_cases.Given as goal

abbrev pub invariant-loop-at : goal.invariant-loop-at
invariant-loop-at l = cases_noted (drop l.at l.cases) l.found.items ≡ cases_noted l.fn.cases l.fn.found.items
