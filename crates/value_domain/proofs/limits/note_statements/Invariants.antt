use Rattle.std.proofs.Common.{◌≡◌, drop}
use Rattle.value_domain.specs.Thresholds.{stmts_noted}
use Rattle.value_domain.proofs.limits.note_statements.Given as goal

abbrev pub invariant-loop-at : goal.invariant-loop-at
invariant-loop-at l = stmts_noted (drop l.at l.statements) l.found.items ≡ stmts_noted l.fn.statements l.fn.found.items
