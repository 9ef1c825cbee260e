use Rattle.std.proofs.Common.{◌≡◌, drop}
use Rattle.value_domain.specs.Thresholds.{globals_noted}
use Rattle.value_domain.proofs.limits.note_globals.Given as goal

abbrev pub invariant-loop-at : goal.invariant-loop-at
invariant-loop-at l = globals_noted (drop l.at l.globals) l.found.items ≡ globals_noted l.fn.globals l.fn.found.items
