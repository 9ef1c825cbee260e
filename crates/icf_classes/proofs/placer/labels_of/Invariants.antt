use Rattle.std.proofs.Common.{◌≡◌, map, take}
use Rattle.icf_classes.proofs.placer.labels_of.Given as goal

abbrev pub invariant-loop-block : goal.invariant-loop-block
invariant-loop-block l = l.labels ≡ map (λ b. b.label) (take l.block-index l.blocks)
