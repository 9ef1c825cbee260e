use Rattle.std.proofs.Common.{◌≡◌, drop}
use Rattle.lattice_parts.specs.Sets.{has_by}
use Rattle.lattice_parts.proofs.sets.has.Given as goal

abbrev pub invariant-loop-at : goal.invariant-loop-at
invariant-loop-at g l = has_by g.K.Order.before l.item (drop l.at l.items) ≡ has_by g.K.Order.before l.item l.items
