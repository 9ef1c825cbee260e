use Rattle.std.proofs.Common.{◌≡◌, drop}
use Rattle.value_domain.specs.Thresholds.{blocks_noted}
use Rattle.value_domain.proofs.limits.note_blocks.Given as goal

abbrev pub invariant-loop-at : goal.invariant-loop-at
invariant-loop-at l = blocks_noted (drop l.at l.blocks) l.found.items ≡ blocks_noted l.fn.blocks l.fn.found.items
