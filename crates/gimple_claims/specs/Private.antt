-- Locals whose address stands only as the base of accesses: nothing points to them.
use Rattle.std.specs.Prelude.{◌≡◌, ℕ, ℤ, List, [], ◌∷◌, Option, Some, None, slice_get}
use Rattle.std.specs.List.{All, AllByRecursion, Contains}
use Rattle.gimple_ir.specs.declared.value.Value.{Value}
use Rattle.gimple_ir.specs.declared.value.Value.TheVariants.{Int, Null, At, Code}
use Rattle.gimple_ir.specs.declared.value.Object.{Object}
use Rattle.gimple_ir.specs.declared.value.Object.TheVariants.{Local as LocalObject}
use Rattle.gimple_ir.specs.declared.operand.Base.{Base}
use Rattle.gimple_ir.specs.declared.operand.Base.TheVariants.{Variable}
use Rattle.gimple_ir.specs.declared.declarations.Decl.{Decl}
use Rattle.gimple_ir.specs.declared.statement.Stmt.{Stmt}
use Rattle.gimple_ir.specs.declared.statement.Stmt.TheVariants.{Load as LoadStmt, Store as StoreStmt}
use Rattle.gimple_ir.specs.declared.program.Function.{Function}
use Rattle.gimple_core.specs.declared.machine.MemorySlot.{MemorySlot}
use Rattle.gimple_core.specs.Sealed.{Sealed}
use Rattle.gimple_core.specs.Memory.{Memory}
use Rattle.gimple_core.specs.State.{Control, Frame, State}
use Rattle.gimple_core.specs.Reach.{AddressedIn}
use Rattle.gimple_core.specs.Trace.{Event, Entry, At as AtPoint, Load, Store, Leave, EachAfter, Trace}
use Rattle.gimple_claims.specs.Runs.{Comes}
use Rattle.gimple_claims.specs.Shapes.{controls}

-- The local of this number has a name whose address no operand of the function takes: it is not copied, stored, passed, compared or returned.
-- So the name stands only as the base of loads and stores.
pub record IsPrivate (f : Function) (k : ℕ) : Type 0 where
  pub decl : Decl
  pub there : slice_get f.locals k ≡ Some decl
  pub unaddressed : AddressedIn decl.name f.blocks → ⊥

-- a call of the function has begun with this serial
pub record HasBegun (past : List Event) (serial : ℕ) (f : Function) : Type 0 where
  pub arguments : List Value
  pub memory : Memory
  pub caller : Option Control
  pub there : Contains past (Entry serial f arguments memory caller)

-- a pointer to the object, at whatever offset
abbrev pub PointsTo : Object → Value → Type 0
PointsTo object (Int z) = ⊥
PointsTo object Null = ⊥
PointsTo object (At other offset) = other ≡ object
PointsTo object (Code name) = ⊥

-- none of these values is one
abbrev pub NoPointers : Object → List Value → Type 0
NoPointers object vs = All (λ (v : Value). PointsTo object v → ⊥) vs

abbrev pub NoPointersIn : Object → Memory → Type 0
NoPointersIn object m = All (λ (x : MemorySlot). PointsTo object x.value → ⊥) m.slots

-- no register of a frame and no slot of memory points to the object
pub record IsUnheld (object : Object) (s : State) : Type 0 where
  pub top : NoPointers object s.world.registers
  pub below : AllByRecursion (λ (f : Frame). NoPointers object f.registers) s.below
  pub memory : NoPointersIn object s.world.memory

-- in each state of each run, of each call that has begun, returned or not
abbrev pub PrivateLocalsUnheld : Type 0
PrivateLocalsUnheld = (p : Sealed) (input : List ℤ) (past : List Event) (s : State) → Comes p input past s → (f : Function) (serial k : ℕ) → HasBegun past serial f → IsPrivate f k → IsUnheld (LocalObject serial k) s

-- each frame of a state is such a call
abbrev pub FramesHaveBegun : Type 0
FramesHaveBegun = (p : Sealed) (input : List ℤ) (past : List Event) (s : State) → Comes p input past s → (c : Control) → Contains (controls s) c → HasBegun past c.serial c.function

-- no argument of a call that begins, and no slot of the memory that it gets, points to such a local
abbrev pub EntryIsUnheld : List Event → Event → Type 0
EntryIsUnheld past (Entry serial g arguments m caller) = (f : Function) (other k : ℕ) → HasBegun past other f → IsPrivate f k → NoPointers (LocalObject other k) arguments × NoPointersIn (LocalObject other k) m
EntryIsUnheld past (AtPoint c w) = Unit {0}
EntryIsUnheld past (Load c scalar object offset v) = Unit {0}
EntryIsUnheld past (Store c scalar object offset v) = Unit {0}
EntryIsUnheld past (Leave serial) = Unit {0}

abbrev pub PrivateLocalsNotPassed : Type 0
PrivateLocalsNotPassed = (p : Sealed) (input : List ℤ) (n : ℕ) → EachAfter EntryIsUnheld [] (Trace p input n)

-- ---- who touches them

abbrev pub base_of : Stmt → Option Base
base_of (LoadStmt to scalar place) = Some place.base
base_of (StoreStmt scalar place from) = Some place.base
base_of x = None

-- the base of the access that comes next
abbrev pub next_base : List Stmt → Option Base
next_base [] = None
next_base (x ∷ xs) = base_of x

-- an access of the call of this serial to its local of this number, by the local's name
pub record IsByName (f : Function) (serial k : ℕ) (c : Control) : Type 0 where
  pub own : c.serial ≡ serial
  pub function : c.function ≡ f
  pub decl : Decl
  pub there : slice_get f.locals k ≡ Some decl
  pub base : next_base c.rest ≡ Some (Variable decl.name)

abbrev pub AccessIsByName : List Event → Event → Type 0
AccessIsByName past (Entry serial g arguments m caller) = Unit {0}
AccessIsByName past (AtPoint c w) = Unit {0}
AccessIsByName past (Load c scalar object offset v) = (f : Function) (serial k : ℕ) → HasBegun past serial f → IsPrivate f k → object ≡ LocalObject serial k → IsByName f serial k c
AccessIsByName past (Store c scalar object offset v) = (f : Function) (serial k : ℕ) → HasBegun past serial f → IsPrivate f k → object ≡ LocalObject serial k → IsByName f serial k c
AccessIsByName past (Leave serial) = Unit {0}

-- only accesses of the own call, by the own name
abbrev pub PrivateLocalsByName : Type 0
PrivateLocalsByName = (p : Sealed) (input : List ℤ) (n : ℕ) → EachAfter AccessIsByName [] (Trace p input n)
