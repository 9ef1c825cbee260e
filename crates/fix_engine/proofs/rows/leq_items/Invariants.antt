use Rattle.std.proofs.Common.{◌≡◌, drop}
use Rattle.fix_engine.specs.Rows.{rows_below}
use Rattle.fix_engine.proofs.rows.leq_items.Given as goal

abbrev pub invariant-loop-i : goal.invariant-loop-i
invariant-loop-i g l = rows_below g.V.Lattice.below (drop l.i l.xs) (drop l.i l.ys) ≡ rows_below g.V.Lattice.below l.xs l.ys
