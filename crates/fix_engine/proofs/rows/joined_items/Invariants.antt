use Rattle.std.proofs.Common.{◌≡◌, ◌++◌, drop}
use Rattle.fix_engine.specs.Rows.{rows_joined}
use Rattle.fix_engine.proofs.rows.joined_items.Given as goal

abbrev pub invariant-loop-i : goal.invariant-loop-i
invariant-loop-i g l = l.next.items ++ rows_joined g.V.Lattice.joined (drop l.i l.xs) (drop l.i l.ys) ≡ rows_joined g.V.Lattice.joined l.xs l.ys
