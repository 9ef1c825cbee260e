use Rattle.std.proofs.Common.{◌+◌, ◌-◌, length}
use Rattle.graph_walk.specs.Walk.{row_at, IsWalk, unmarked}
use Rattle.graph_walk.proofs.walk.walk_past.Given as goal

abbrev pub invariant-loop-followed : goal.invariant-loop-followed
invariant-loop-followed l = IsWalk (row_at l.rows) l.fn.marks.items l.root l.followed (record { marks = l.marks.items; nodes = l.nodes.items })

abbrev pub decreases-loop-followed : goal.decreases-loop-followed
decreases-loop-followed l = unmarked l.marks.items + length l.nodes.items - l.followed
