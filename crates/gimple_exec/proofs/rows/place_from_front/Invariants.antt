use Rattle.gimple_exec.proofs.AssignedLemmas.{NoneBefore}
use Rattle.gimple_exec.proofs.rows.place_from_front.Given as goal

abbrev pub invariant-loop-at : goal.invariant-loop-at
invariant-loop-at g l = NoneBefore (g.T.Placed.matches l.sought) l.items l.at
