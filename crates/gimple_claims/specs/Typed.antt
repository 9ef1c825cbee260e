-- Values of their scalars.
use Rattle.std.specs.Prelude.{◌≡◌, ℕ, ℤ, Bool, true, false, ◌&&◌, List, [], ◌∷◌, None}
use Rattle.std.specs.List.{AllByRecursion, list_all}
use Rattle.gimple_ir.specs.declared.scalar.Scalar.TheVariants.{I64}
use Rattle.gimple_ir.specs.declared.declarations.Register.{Register}
use Rattle.gimple_ir.specs.declared.value.Value.{Value}
use Rattle.gimple_core.specs.declared.machine.MemorySlot.{MemorySlot}
use Rattle.gimple_core.specs.Sealed.{Sealed}
use Rattle.gimple_core.specs.Operators.{in_scalar}
use Rattle.gimple_core.specs.State.{Control, Frame, State, registers_of, is_of}
use Rattle.gimple_core.specs.Trace.{Event, Entry, At, Load, Store, Leave, EachAfter, Trace}
use Rattle.gimple_core.specs.Accepted.{first_fault}
use Rattle.gimple_claims.specs.Runs.{Comes}

-- each register holds a value of its scalar, and there are as many values as registers
abbrev pub registers_typed : List Register → List Value → Bool
registers_typed [] [] = true
registers_typed [] (v ∷ vs) = false
registers_typed (r ∷ rs) [] = false
registers_typed (r ∷ rs) (v ∷ vs) = is_of r.scalar v && registers_typed rs vs

-- the registers of a frame of this function
abbrev pub frame_typed : Control → List Value → Bool
frame_typed c registers = registers_typed (registers_of c.function) registers

abbrev pub slots_typed : List MemorySlot → Bool
slots_typed slots = list_all (λ s. is_of s.scalar s.value) slots

pub record StateTyped (s : State) : Type 0 where
  pub top : frame_typed s.top s.world.registers ≡ true
  pub below : AllByRecursion (λ (f : Frame). frame_typed f.control f.registers ≡ true) s.below
  pub memory : slots_typed s.world.memory.slots ≡ true

-- in each state of each run of an accepted program, on an input of i64 numbers, registers and slots hold values of their scalars
abbrev pub ValuesAreTyped : Type 0
ValuesAreTyped = (p : Sealed) → first_fault p.program ≡ None → (input : List ℤ) → list_all (in_scalar I64) input ≡ true → (past : List Event) (s : State) → Comes p input past s → StateTyped s

-- the arguments of a call that begins and the memory then; registers and memory at a point; what an access gives or puts
abbrev pub EventTyped : Event → Type 0
EventTyped (Entry serial g arguments m caller) = (registers_typed g.params arguments ≡ true) × (slots_typed m.slots ≡ true)
EventTyped (At c w) = (frame_typed c w.registers ≡ true) × (slots_typed w.memory.slots ≡ true)
EventTyped (Load c scalar object offset v) = is_of scalar v ≡ true
EventTyped (Store c scalar object offset v) = is_of scalar v ≡ true
EventTyped (Leave serial) = Unit {0}

-- so what each event tells is of its scalar
abbrev pub EventsAreTyped : Type 0
EventsAreTyped = (p : Sealed) → first_fault p.program ≡ None → (input : List ℤ) → list_all (in_scalar I64) input ≡ true → (n : ℕ) → EachAfter (λ past e. EventTyped e) [] (Trace p input n)
