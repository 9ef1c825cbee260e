use Rattle.std.proofs.Common.{◌≡◌, drop}
use Rattle.lattice_parts.specs.Sets.{united}
use Rattle.lattice_parts.proofs.sets.unite.Given as goal

abbrev pub invariant-loop-at : goal.invariant-loop-at
invariant-loop-at g l = united g.K.Order.before (drop l.at l.more) l.all.items ≡ united g.K.Order.before l.fn.more l.fn.all.items
