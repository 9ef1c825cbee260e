-- The functions that values are.
use Rattle.std.specs.Prelude.{◌≡◌, ℤ, List, Some, None}
use Rattle.std.specs.List.{All, AllByRecursion}
use Rattle.gimple_ir.specs.declared.value.Value.{Value}
use Rattle.gimple_ir.specs.declared.value.Value.TheVariants.{Int, Null, At, Code}
use Rattle.gimple_ir.specs.declared.program.Function.{Function}
use Rattle.gimple_ir.specs.declared.program.Program.{Program}
use Rattle.gimple_core.specs.declared.machine.MemorySlot.{MemorySlot}
use Rattle.gimple_core.specs.Sealed.{Sealed}
use Rattle.gimple_core.specs.State.{Frame, State}
use Rattle.gimple_core.specs.Run.{function_named}
use Rattle.gimple_core.specs.Trace.{Event}
use Rattle.gimple_core.specs.Reach.{IsAddressed}
use Rattle.gimple_core.specs.Accepted.{first_fault}
use Rattle.gimple_claims.specs.Runs.{Comes}

-- a function value is of a function of the program whose address is taken there
abbrev pub ValueAddressed : Program → Value → Type 0
ValueAddressed p (Int z) = Unit {0}
ValueAddressed p Null = Unit {0}
ValueAddressed p (At object offset) = Unit {0}
ValueAddressed p (Code name) = ((f : Function) × (function_named name p.functions ≡ Some f)) × IsAddressed p name

pub record StateAddressed (p : Program) (s : State) : Type 0 where
  pub top : All (ValueAddressed p) s.world.registers
  pub below : AllByRecursion (λ (f : Frame). All (ValueAddressed p) f.registers) s.below
  pub memory : All (λ (x : MemorySlot). ValueAddressed p x.value) s.world.memory.slots

-- in each state of each run of an accepted program
abbrev pub FunctionValuesAreAddressed : Type 0
FunctionValuesAreAddressed = (p : Sealed) → first_fault p.program ≡ None → (input : List ℤ) (past : List Event) (s : State) → Comes p input past s → StateAddressed p.program s
