use Rattle.std.proofs.Common.{◌≡◌, ◌++◌, take}
use Rattle.gimple_core.specs.Layout.{moved}
use Rattle.gimple_core.proofs.layout.append_moved.Given as goal

abbrev pub invariant-loop-slot : goal.invariant-loop-slot
invariant-loop-slot l = l.slots ≡ l.fn.slots ++ moved l.by (take l.slot-index l.more)
