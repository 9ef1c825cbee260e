use Rattle.std.proofs.Common.{◌≡◌, drop}
use Rattle.lattice_parts.specs.Sets.{subset_by}
use Rattle.lattice_parts.proofs.sets.is_within.Given as goal

abbrev pub invariant-loop-at : goal.invariant-loop-at
invariant-loop-at g l = subset_by g.K.Order.before (drop l.at l.left) l.right ≡ subset_by g.K.Order.before l.left l.right
