use Rattle.std.proofs.Common.{◌≤◌, drop, length}
use Rattle.body_values.specs.GivenLoads.{HasFirst}
use Rattle.body_values.proofs.load_table.first_values.Given as goal

abbrev pub decreases-loop-at : goal.decreases-loop-at
decreases-loop-at l = l.at

abbrev pub invariant-loop-at : goal.invariant-loop-at
invariant-loop-at l = (l.at ≤ length l.facts) × HasFirst l.values.entries (drop l.at l.facts) l.function
