use Rattle.std.proofs.Common.{◌≡◌, ◌-◌, length, take}
use Rattle.gimple_core.specs.Layout.{layout_of}
use Rattle.struct_tables.proofs.structs.Structs.all_slots.Given as goal

abbrev pub invariant-loop-slot : goal.invariant-loop-slot
invariant-loop-slot l = l.slots ≡ take (length l.slots) (layout_of l.fn.self l.fn.decl).slots

abbrev pub decreases-loop-slot : goal.decreases-loop-slot
decreases-loop-slot l = length (layout_of l.fn.self l.fn.decl).slots - length l.slots
