use Rattle.std.proofs.Common.{◌++◌, ℕ, List, length}
use Rattle.graph_walk.specs.Components.{AreFirstsOf}
use Rattle.graph_walk.specs.Search.{IsFinishing}
use Rattle.graph_walk.specs.Walk.{row_at}
use Rattle.graph_walk.proofs.components.firsts_of.Given as goal

abbrev pub invariant-loop-root : goal.invariant-loop-root
invariant-loop-root l = (after : List ℕ) × IsFinishing (row_at l.rows) (length l.rows) (l.finished.items ++ after) × AreFirstsOf (row_at l.rows) (length l.rows) after l.marks.items l.firsts.items

abbrev pub decreases-loop-root : goal.decreases-loop-root
decreases-loop-root l = length l.finished.items
