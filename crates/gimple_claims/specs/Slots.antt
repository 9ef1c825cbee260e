-- What slots and registers hold after stores and assignments, and between two states of a run.
use Rattle.std.specs.Prelude.{◌≡◌, ℕ, ℤ, List, [], ◌++◌, Option, Some, find, option_map}
use Rattle.std.specs.List.{AllByRecursion}
use Rattle.gimple_ir.specs.declared.scalar.Scalar.{Scalar}
use Rattle.gimple_ir.specs.declared.value.Value.{Value}
use Rattle.gimple_ir.specs.declared.value.Object.{Object}
use Rattle.gimple_core.specs.declared.machine.Extent.{Extent}
use Rattle.gimple_core.specs.declared.machine.MemorySlot.{MemorySlot}
use Rattle.gimple_core.specs.Sealed.{Sealed}
use Rattle.gimple_core.specs.Memory.{Memory, is_slot}
use Rattle.gimple_core.specs.State.{State}
use Rattle.gimple_core.specs.Run.{Transfer, Goes, Reaches, Moves, step}
use Rattle.gimple_core.specs.Trace.{Event, Entry, At, Load, Store, Leave, told}
use Rattle.gimple_claims.specs.Runs.{Comes}
use Rattle.gimple_claims.specs.Laws.{living_object}

-- what a slot holds, if it is there
abbrev pub slot_value : Object → ℕ → Scalar → Memory → Option Value
slot_value object offset scalar m = option_map (λ (s : MemorySlot). s.value) (find (is_slot object offset scalar) m.slots)

-- a store to this slot
abbrev pub IsStoreTo : Object → ℕ → Scalar → Event → Type 0
IsStoreTo object offset scalar (Entry serial g arguments m caller) = ⊥
IsStoreTo object offset scalar (At c w) = ⊥
IsStoreTo object offset scalar (Load c kind other place v) = ⊥
IsStoreTo object offset scalar (Store c kind other place v) = (other ≡ object) × (place ≡ offset) × (kind ≡ scalar)
IsStoreTo object offset scalar (Leave serial) = ⊥

-- some steps lead from the first state to the second, or none, and tell these events
pub data LeadsTelling (p : Sealed) (s : State) : List Event → State → Type 0 where
  stays : LeadsTelling p s [] s
  goes_on : (es : List Event) (t u : State) → LeadsTelling p s es t → step p t ≡ Goes u → LeadsTelling p s (es ++ told p t) u
  moves_on : (es : List Event) (k : Transfer) (t u : State) → LeadsTelling p s es t → step p t ≡ Reaches (Moves k u) → LeadsTelling p s (es ++ told p t) u

-- between two states of a run in which an object lives, each of its slots to which nothing is stored keeps its value
abbrev pub SlotsKeepValues : Type 0
SlotsKeepValues = (p : Sealed) (input : List ℤ) (past es : List Event) (s t : State) (object : Object) (offset : ℕ) (scalar : Scalar) (x y : Extent) → Comes p input past s → LeadsTelling p s es t →
    living_object object s.world.memory ≡ Some x → living_object object t.world.memory ≡ Some y → AllByRecursion (λ e. IsStoreTo object offset scalar e → ⊥) es →
    slot_value object offset scalar t.world.memory ≡ slot_value object offset scalar s.world.memory
