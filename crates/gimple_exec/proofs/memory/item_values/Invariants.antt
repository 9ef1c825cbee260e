use Rattle.std.proofs.Common.{◌≡◌, map, take}
use Rattle.gimple_core.specs.Run.{item_value}
use Rattle.gimple_exec.proofs.memory.item_values.Given as goal

abbrev pub invariant-loop-item : goal.invariant-loop-item
invariant-loop-item l = l.held.items ≡ map (item_value l.globals) (take l.item-index l.items)
