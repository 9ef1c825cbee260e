use Rattle.std.proofs.Common.{◌≡◌, take}
use Rattle.partition_refinement.specs.Splitting.{Gathers}
use Rattle.partition_refinement.proofs.touched.add_all.Given as goal

abbrev pub invariant-loop-item : goal.invariant-loop-item
invariant-loop-item l = Gathers (λ item x. item ≡ x) (take l.item-index l.more) l.initial.items.keys l.items.keys
