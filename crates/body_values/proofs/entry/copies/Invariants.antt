use Rattle.std.proofs.Common.{◌≡◌, ◌++◌, drop}
use Rattle.body_values.proofs.entry.copies.Given as goal

abbrev pub invariant-loop-at : goal.invariant-loop-at
invariant-loop-at l = l.row.items ++ drop l.at l.values ≡ l.values
