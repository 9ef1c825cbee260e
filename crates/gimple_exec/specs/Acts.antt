-- What the interpreter's values mean.
use Rattle.std.specs.Prelude.{◌≡◌, Option, Some, None, Result, Ok, Err}
use Rattle.gimple_ir.specs.declared.value.TrapKind.{TrapKind}
use Rattle.gimple_core.specs.State as meant
use Rattle.gimple_exec.specs.declared.world.World.{World}

-- the world that the interpreter's one stands for
abbrev pub world_of : World → meant.World
world_of w = record { registers = w.registers.items; memory = w.memory; input = w.input; taken = w.taken; output = w.output }

-- no trap, and the world afterwards; or a trap, with nothing printed
abbrev pub Acts : World → Option TrapKind → Result meant.World TrapKind → World → Type 0
Acts old None r new = r ≡ Ok (world_of new)
Acts old (Some kind) r new = (r ≡ Err kind) × (new.output ≡ old.output)
