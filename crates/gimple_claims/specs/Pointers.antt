-- Pointers to locals are of frames that have begun.
use Rattle.std.specs.Prelude.{ℕ, ◌<◌, ℤ, List, []}
use Rattle.std.specs.List.{All, AllByRecursion}
use Rattle.gimple_ir.specs.declared.value.Value.{Value}
use Rattle.gimple_ir.specs.declared.value.Value.TheVariants.{Int, Null, At, Code}
use Rattle.gimple_ir.specs.declared.value.Object.{Object}
use Rattle.gimple_ir.specs.declared.value.Object.TheVariants.{Global, Local}
use Rattle.gimple_core.specs.declared.machine.MemorySlot.{MemorySlot}
use Rattle.gimple_core.specs.Sealed.{Sealed}
use Rattle.gimple_core.specs.Memory.{Memory}
use Rattle.gimple_core.specs.State.{Frame, State}
use Rattle.gimple_core.specs.Trace.{Event, Entry, At as AtPoint, Load, Store, Leave, EachAfter, Trace}
use Rattle.gimple_claims.specs.Runs.{Comes}

-- a global, or a local of a frame with a serial below this one
abbrev pub IsOldObject : ℕ → Object → Type 0
IsOldObject n (Global k) = Unit {0}
IsOldObject n (Local serial k) = serial < n

abbrev pub IsOldValue : ℕ → Value → Type 0
IsOldValue n (Int z) = Unit {0}
IsOldValue n Null = Unit {0}
IsOldValue n (At object offset) = IsOldObject n object
IsOldValue n (Code name) = Unit {0}

abbrev pub IsOldMemory : ℕ → Memory → Type 0
IsOldMemory n m = All (λ (x : MemorySlot). IsOldValue n x.value) m.slots

pub record HasOldPointers (s : State) : Type 0 where
  pub top : All (IsOldValue s.next) s.world.registers
  pub below : AllByRecursion (λ (f : Frame). All (IsOldValue s.next) f.registers) s.below
  pub memory : IsOldMemory s.next s.world.memory

-- in each state of each run each pointer to a local, in a register or a slot, is of a frame with a serial below the next one
abbrev pub PointersAreOld : Type 0
PointersAreOld = (p : Sealed) (input : List ℤ) (past : List Event) (s : State) → Comes p input past s → HasOldPointers s

-- a call that begins gets no pointer to its own locals, in an argument or in memory
abbrev pub EntryIsOld : List Event → Event → Type 0
EntryIsOld past (Entry serial g arguments m caller) = All (IsOldValue serial) arguments × IsOldMemory serial m
EntryIsOld past (AtPoint c w) = Unit {0}
EntryIsOld past (Load c scalar object offset v) = Unit {0}
EntryIsOld past (Store c scalar object offset v) = Unit {0}
EntryIsOld past (Leave serial) = Unit {0}

abbrev pub EntriesGetOldPointers : Type 0
EntriesGetOldPointers = (p : Sealed) (input : List ℤ) (n : ℕ) → EachAfter EntryIsOld [] (Trace p input n)
