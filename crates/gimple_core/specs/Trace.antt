-- The events of a run, and what it means that something holds of each of them.
use Rattle.std.specs.Prelude.{◌≡◌, ℕ, zero, suc, ℤ, Bool, true, false, if◌then◌else◌, List, [], ◌∷◌, ◌++◌, Option, Some, None, Result, Ok, Err}
use Rattle.std.specs.List.{list_all}
use Rattle.gimple_ir.specs.declared.scalar.Scalar.{Scalar}
use Rattle.gimple_ir.specs.declared.scalar.Scalar.TheVariants.{I64}
use Rattle.gimple_ir.specs.declared.value.Value.{Value}
use Rattle.gimple_ir.specs.declared.value.Object.{Object}
use Rattle.gimple_ir.specs.declared.declarations.Global.{Global}
use Rattle.gimple_ir.specs.declared.program.Function.{Function}
use Rattle.gimple_ir.specs.declared.statement.Stmt.{Stmt}
use Rattle.gimple_ir.specs.declared.statement.Stmt.TheVariants.{Load as LoadStmt, Store as StoreStmt}
use Rattle.gimple_core.specs.Sealed.{Sealed}
use Rattle.gimple_ir.specs.declared.value.TrapKind.{TrapKind}
use Rattle.gimple_core.specs.declared.machine.FoundSlot.{FoundSlot}
use Rattle.gimple_core.specs.Operators.{in_scalar}
use Rattle.gimple_core.specs.Memory.{Memory, found_at}
use Rattle.gimple_core.specs.State.{Control, World, State, scope_of}
use Rattle.gimple_core.specs.Run.{Jump, CallEntry, CallReturn, Reached, Moves, Stops, Traps, Did, Goes, Reaches, Calling, call_of, values_of, value_of, place_value, stepped, walk, start, first_memory}

-- where a statement or end stands in a program: the name of its function, and the numbers of its block and of its place there
pub record NamedPoint : Type 0 where
  pub function : List ℕ
  pub block : ℕ
  pub index : ℕ

abbrev pub point_of : Control → NamedPoint
point_of c = record { function = c.function.name; block = c.block; index = c.index }

-- `Entry`: the memory is that before the frame's own locals are made, and the caller is the point of the call
pub data Event : Type 0 where
  Entry : (serial : ℕ) (function : Function) (arguments : List Value) (memory : Memory) (caller : Option Control) → Event
  At : Control → World → Event
  Load : Control → Scalar → Object → ℕ → Value → Event
  Store : Control → Scalar → Object → ℕ → Value → Event
  Leave : (serial : ℕ) → Event

abbrev pub load_event : Control → Scalar → Result FoundSlot TrapKind → List Event
load_event c scalar (Err k) = []
load_event c scalar (Ok f) = Load c scalar f.object f.offset f.value ∷ []

abbrev pub store_event : Control → Scalar → Value → Result FoundSlot TrapKind → List Event
store_event c scalar v (Err k) = []
store_event c scalar v (Ok f) = if f.constant then [] else Store c scalar f.object f.offset v ∷ []

-- what a statement's own access tells, where it did not trap
abbrev pub accesses : List Global → Stmt → State → List Event
accesses globals (LoadStmt to scalar place) s = load_event s.top scalar (found_at s.world.memory (place_value globals (scope_of s.top) s.world.registers place) scalar)
accesses globals (StoreStmt scalar place from) s =
    store_event s.top scalar (value_of globals (scope_of s.top) s.world.registers from) (found_at s.world.memory (place_value globals (scope_of s.top) s.world.registers place) scalar)
accesses globals x s = []

abbrev pub access : List Global → List Stmt → State → List Event
access globals [] s = []
access globals (x ∷ xs) s = accesses globals x s

abbrev pub arguments_at : List Global → List Stmt → State → List Value
arguments_at globals [] s = []
arguments_at globals (x ∷ xs) s = arguments_of globals (call_of x) s
  where
    arguments_of : List Global → Option Calling → State → List Value
    arguments_of globals None s = []
    arguments_of globals (Some c) s = values_of globals (scope_of s.top) s.world.registers c.arguments

-- what the transfer that ends a statement tells
abbrev pub crossing : List Global → List Stmt → State → Did → List Event
crossing globals xs s (Goes t) = []
crossing globals xs s (Reaches (Moves CallEntry t)) = Entry t.top.serial t.top.function (arguments_at globals xs s) s.world.memory (Some s.top) ∷ []
crossing globals xs s (Reaches (Moves CallReturn t)) = Leave s.top.serial ∷ []
crossing globals xs s (Reaches (Moves Jump t)) = []
crossing globals xs s (Reaches (Stops o z)) = Leave s.top.serial ∷ []
crossing globals xs s (Reaches (Traps o k)) = []

-- the events of one statement or end; the flag says whether a transfer that it comes to is made
unfoldable pub told_by : Sealed → Bool → List Stmt → State → List Event
told_by p made xs s = At s.top s.world ∷ (access p.program.globals xs s ++ (if made then crossing p.program.globals xs s (stepped p s xs) else []))

abbrev pub told : Sealed → State → List Event
told p s = told_by p true s.top.rest s

abbrev pub events_after : Did → (State → List Event) → List Event
events_after (Goes t) on = on t
events_after (Reaches r) on = []

-- the events up to the next transfer
unfoldable pub walk_events : Sealed → Bool → List Stmt → State → List Event
walk_events p made [] s = told_by p made [] s
walk_events p made (x ∷ xs) s = told_by p made (x ∷ xs) s ++ events_after (stepped p s (x ∷ xs)) (walk_events p made xs)

abbrev pub events_on : Reached → (State → List Event) → List Event
events_on (Moves k t) on = on t
events_on (Stops o z) on = []
events_on (Traps o k) on = []

-- the events of a run from s that may make n more transfers
unfoldable pub events : Sealed → ℕ → State → List Event
events p zero s = walk_events p false s.top.rest s
events p (suc n) s = walk_events p true s.top.rest s ++ events_on (walk p s.top.rest s) (events p n)

-- main's own entry
abbrev pub main_entry : Sealed → State → Event
main_entry p s = Entry s.top.serial s.top.function [] (first_memory p.program) None

abbrev pub events_from : Sealed → ℕ → Option State → List Event
events_from p n None = []
events_from p n (Some s) = main_entry p s ∷ events p n s

unfoldable pub Trace : Sealed → List ℤ → ℕ → List Event
Trace p input n = events_from p n (start p input)

-- ---- in every run

-- each event with what happened before it, the latest first
abbrev pub EachAfter : (List Event → Event → Type 0) → List Event → List Event → Type 0
EachAfter Q past [] = Unit {0}
EachAfter Q past (e ∷ es) = Q past e × EachAfter Q (e ∷ past) es

abbrev pub after : List Event → List Event → List Event
after past [] = past
after past (e ∷ es) = after (e ∷ past) es

-- each event, with what happened before it, of each run on numbers of i64
abbrev pub InEachRun : Sealed → (List Event → Event → Type 0) → Type 0
InEachRun p Q = (input : List ℤ) → list_all (in_scalar I64) input ≡ true → (turns : ℕ) → EachAfter Q [] (Trace p input turns)
