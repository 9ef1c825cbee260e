-- What holds of each state that comes up in a run.
use Rattle.std.specs.Prelude.{◌≡◌, ◌<◌, ◌+◌, ℕ, ◌==◌, ℤ, Bool, true, List, [], map, filter, find, length, slice_get, Option, Some, None}
use Rattle.std.specs.List.{AllByRecursion, list_any, list_all}
use Rattle.gimple_ir.specs.declared.declarations.Global.{Global as GlobalDef}
use Rattle.gimple_ir.specs.declared.value.Value.{Value}
use Rattle.gimple_ir.specs.declared.value.Object.{Object}
use Rattle.gimple_ir.specs.declared.value.Object.TheVariants.{Global, Local}
use Rattle.gimple_ir.specs.declared.value.Outcome.{Outcome}
use Rattle.gimple_ir.specs.declared.value.Outcome.TheVariants.{Going, Ended, Trapped}
use Rattle.gimple_ir.specs.declared.program.Program.{Program}
use Rattle.gimple_core.specs.declared.machine.Extent.{Extent}
use Rattle.gimple_core.specs.declared.machine.MemorySlot.{MemorySlot}
use Rattle.gimple_core.specs.Sealed.{Sealed}
use Rattle.gimple_core.specs.Memory.{Memory, same_object}
use Rattle.gimple_core.specs.State.{Control, Frame, State, registers_of}
use Rattle.gimple_core.specs.Layout.{layout_of}
use Rattle.gimple_core.specs.Run.{filled, item_value, Run}
use Rattle.gimple_core.specs.Trace.{Event, Entry, At, Load, Store, Leave, EachAfter, Trace}
use Rattle.gimple_claims.specs.Runs.{Comes, Leads}
use Rattle.gimple_claims.specs.Stack.{AreLive, serials}

-- ---- serials

abbrev pub IsOlder : ℕ → Event → Type 0
IsOlder n (Entry s g arguments m caller) = s < n
IsOlder n (At c w) = c.serial < n
IsOlder n (Load c scalar object offset v) = c.serial < n
IsOlder n (Store c scalar object offset v) = c.serial < n
IsOlder n (Leave s) = s < n

pub record Older (past : List Event) (s : State) : Type 0 where
  pub top : s.top.serial < s.next
  pub below : AllByRecursion (λ (f : Frame). f.control.serial < s.next) s.below
  pub past_older : AllByRecursion (IsOlder s.next) past

-- each frame and each event has a serial below the next one
abbrev pub SerialsGrow : Type 0
SerialsGrow = (p : Sealed) (input : List ℤ) (past : List Event) (s : State) → Comes p input past s → Older past s

-- the frame that begins has a serial above all those before it
abbrev pub EntryIsNew : List Event → Event → Type 0
EntryIsNew past (Entry s g arguments m caller) = AllByRecursion (IsOlder s) past
EntryIsNew past (At c w) = Unit {0}
EntryIsNew past (Load c scalar object offset v) = Unit {0}
EntryIsNew past (Store c scalar object offset v) = Unit {0}
EntryIsNew past (Leave s) = Unit {0}

-- so no two calls of a run have the same serial
abbrev pub EntriesAreNew : Type 0
EntriesAreNew = (p : Sealed) (input : List ℤ) (n : ℕ) → EachAfter EntryIsNew [] (Trace p input n)

-- the frames are the calls that have begun and not returned
abbrev pub FramesAreLiveCalls : Type 0
FramesAreLiveCalls = (p : Sealed) (input : List ℤ) (past : List Event) (s : State) → Comes p input past s → AreLive past (serials s)

-- ---- what lives

-- a global, or a local of a frame of one of these serials
abbrev pub lives_in : List ℕ → Object → Bool
lives_in ns (Global k) = true
lives_in ns (Local serial k) = list_any (λ n. n == serial) ns

-- each living object is a global or a local of a frame of the state
abbrev pub LivingAreOfFrames : Type 0
LivingAreOfFrames = (p : Sealed) (input : List ℤ) (past : List Event) (s : State) → Comes p input past s → list_all (λ x. lives_in (serials s) x.object) s.world.memory.living ≡ true

-- the object as it lives, or none
abbrev pub living_object : Object → Memory → Option Extent
living_object object m = find (λ x. same_object x.object object) m.living

-- what lives in one state and not in a later one lives in no state after that
abbrev pub DeadStayDead : Type 0
DeadStayDead = (p : Sealed) (input : List ℤ) (past : List Event) (s t u : State) (object : Object) (x : Extent) → Comes p input past s → Leads p s t → Leads p t u →
    living_object object s.world.memory ≡ Some x → living_object object t.world.memory ≡ None → living_object object u.world.memory ≡ None

-- ---- globals

abbrev pub slots_of : ℕ → Memory → List MemorySlot
slots_of k m = filter (λ x. same_object x.object (Global k)) m.slots

-- the global of this number lives, and if it is read-only its slots hold its items, then zero or null
pub record HoldsGlobal (p : Program) (k : ℕ) (g : GlobalDef) (m : Memory) : Type 0 where
  pub lives : living_object (Global k) m ≡ Some (record { object = Global k; size = (layout_of p.structs g.decl).size; constant = g.constant })
  pub items : g.constant ≡ true → slots_of k m ≡ filled (Global k) (layout_of p.structs g.decl).slots (map (item_value p.globals) g.items)

-- in each state of each run, for each global
abbrev pub GlobalsHold : Type 0
GlobalsHold = (p : Sealed) (input : List ℤ) (past : List Event) (s : State) → Comes p input past s → (k : ℕ) (g : GlobalDef) → slice_get p.program.globals k ≡ Some g → HoldsGlobal p.program k g s.world.memory

-- ---- registers

-- as many registers as the function declares, its formals and the others
abbrev pub HasRegisters : Control → List Value → Type 0
HasRegisters c registers = length registers ≡ length (registers_of c.function)

pub record StateHasRegisters (s : State) : Type 0 where
  pub top : HasRegisters s.top s.world.registers
  pub below : AllByRecursion (λ (f : Frame). HasRegisters f.control f.registers) s.below

-- each frame has as many registers as its function declares
abbrev pub RegistersAreDeclared : Type 0
RegistersAreDeclared = (p : Sealed) (input : List ℤ) (past : List Event) (s : State) → Comes p input past s → StateHasRegisters s

-- ---- outcomes

-- the run has ended or trapped
abbrev pub IsSettled : Outcome → Type 0
IsSettled (Going output) = ⊥
IsSettled (Ended output status) = Unit {0}
IsSettled (Trapped output kind) = Unit {0}

-- more transfers change nothing then
abbrev pub SettledRunsStay : Type 0
SettledRunsStay = (p : Sealed) (input : List ℤ) (n m : ℕ) → IsSettled (Run p input n) → Run p input (n + m) ≡ Run p input n
