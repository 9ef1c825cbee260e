use Rattle.std.proofs.Common.{ℕ, ◌<◌, ◌≡◌, true, get_or}
use Rattle.lattice_parts.proofs.sets.place_of.Given as goal

abbrev pub invariant-loop-at : goal.invariant-loop-at
invariant-loop-at g l = (k : ℕ) (d : g.row.T.Denot) → k < l.at → g.K.Order.before (get_or l.items k d) l.item ≡ true
