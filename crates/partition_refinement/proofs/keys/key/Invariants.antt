use Rattle.std.proofs.Common.{◌≡◌, pos, ◌∷◌, map, take}
use Rattle.partition_refinement.specs.Relations.{class_of}
use Rattle.partition_refinement.proofs.keys.key.Given as goal

abbrev pub invariant-loop-other : goal.invariant-loop-other
invariant-loop-other l = l.key.items ≡ pos (class_of l.classes l.item) ∷ map (λ k. pos (class_of l.classes k)) (take l.other-index l.row)
