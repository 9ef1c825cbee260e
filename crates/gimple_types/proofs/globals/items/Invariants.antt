use Rattle.std.proofs.Common.{◌≡◌, ◌+◌, ◌<◌, ◌^◌, length}
use Rattle.gimple_core.specs.Layout.{layout_of}
use Rattle.gimple_types.specs.Items.{items_from}
use Rattle.gimple_types.proofs.globals.items.Given as goal

abbrev pub invariant-loop-rest : goal.invariant-loop-rest
invariant-loop-rest l = (l.number + length l.rest < 2 ^ 64) × (items_from l.fn.all.targets l.fn.all.globals (layout_of l.fn.structs l.fn.decl).slots 0 l.fn.xs ≡ items_from l.fn.all.targets l.fn.all.globals (layout_of l.fn.structs l.fn.decl).slots l.number l.rest)

abbrev pub decreases-loop-rest : goal.decreases-loop-rest
decreases-loop-rest l = length l.rest
