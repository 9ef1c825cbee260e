use Rattle.std.proofs.Common.{◌≡◌, ◌++◌, length, drop}
use Rattle.graph_walk.specs.Walk.{listed}
use Rattle.body_fold.specs.Links.{all_targets}
use Rattle.body_fold.proofs.links.rows_of.Given as goal

abbrev pub invariant-loop-at : goal.invariant-loop-at
invariant-loop-at l = (length l.rows.items ≡ l.at) × (listed l.rows.items ++ all_targets l.blocks (drop l.at l.blocks) ≡ all_targets l.blocks l.blocks)
