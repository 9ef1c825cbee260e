use Rattle.std.proofs.Common.{◌≡◌, ◌++◌, drop}
use Rattle.body_fold.specs.Links.{places_of}
use Rattle.body_fold.proofs.links.places.Given as goal

abbrev pub invariant-loop-at : goal.invariant-loop-at
invariant-loop-at l = l.places.items ++ places_of l.blocks (drop l.at l.labels) ≡ places_of l.blocks l.labels
