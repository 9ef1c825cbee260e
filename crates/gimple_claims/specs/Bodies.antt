-- Facts at the points of one body: what an analysis of a function promises, and of whom.
use Rattle.std.specs.Prelude.{◌≡◌, ℕ, ◌+◌, take, slice_get, List, [], ◌∷◌, Option, Some, None}
use Rattle.std.specs.List.{AllByRecursion}
use Rattle.std.specs.Option.{option_and_then}
use Rattle.gimple_ir.specs.declared.value.Value.{Value}
use Rattle.gimple_ir.specs.declared.program.Function.{Function}
use Rattle.gimple_ir.specs.declared.block.Block.{Block}
use Rattle.gimple_ir.specs.declared.statement.Stmt.{Stmt}
use Rattle.gimple_ir.specs.declared.block.End.{End}
use Rattle.gimple_core.specs.Memory.{Memory}
use Rattle.gimple_core.specs.State.{Control}
use Rattle.gimple_core.specs.Run.{labelled}
use Rattle.gimple_core.specs.Trace.{Event, Entry, At, Load, Store, Leave, NamedPoint, point_of}

-- what is given of a function: its arguments with the memory in which it is entered, and the values that its loads give
pub record Facts : Type 1 where
  pub entry : List Value → Memory → Type 0
  pub load : NamedPoint → Value → Type 0

-- the activation of this serial of the function meets the facts at this event
abbrev pub MeetsAt : Function → Facts → ℕ → Event → Type 0
MeetsAt f facts serial (Entry s g arguments m caller) = s ≡ serial → g ≡ f → facts.entry arguments m
MeetsAt f facts serial (At c w) = Unit {0}
MeetsAt f facts serial (Load c scalar object offset v) = c.serial ≡ serial → c.function ≡ f → facts.load (point_of c) v
MeetsAt f facts serial (Store c scalar object offset v) = Unit {0}
MeetsAt f facts serial (Leave s) = Unit {0}

-- and so far
abbrev pub Meets : Function → Facts → ℕ → List Event → Type 0
Meets f facts serial past = AllByRecursion (MeetsAt f facts serial) past

-- each activation of the function meets them
abbrev pub FactsClaim : Function → Facts → List Event → Event → Type 0
FactsClaim f facts past (Entry s g arguments m caller) = g ≡ f → facts.entry arguments m
FactsClaim f facts past (At c w) = Unit {0}
FactsClaim f facts past (Load c scalar object offset v) = c.function ≡ f → facts.load (point_of c) v
FactsClaim f facts past (Store c scalar object offset v) = Unit {0}
FactsClaim f facts past (Leave s) = Unit {0}

-- An analysis of one body: what a register file says of registers, the file at entry, what statements make of it by block
-- and index, and what an end makes of it on its way to a label. None is: not reached.
pub record BodyFlow (A : Type 0) : Type 1 where
  pub In : A → List Value → Type 0
  pub begin : Option A
  pub flow : ℕ → ℕ → Stmt → A → Option A
  pub edge : End → ℕ → A → Option A

-- the block with this number, as a run numbers it
pub data IsBlock (f : Function) (k : ℕ) (b : Block) : Type 0 where
  first : (bs : List Block) → f.blocks ≡ b ∷ bs → k ≡ 0 → IsBlock f k b
  jumped : (label : ℕ) → labelled label f.blocks ≡ Some (k, b) → IsBlock f k b

-- the file at a point, by what is left of the body there
pub data StateAt {A : Type 0} (f : Function) (F : BodyFlow A) (sol : ℕ → Option A) : ℕ → ℕ → List Stmt → End → A → Type 0 where
  begin : (k : ℕ) (b : Block) (a : A) → IsBlock f k b → sol k ≡ Some a → StateAt f F sol k 0 b.body b.end a
  next : (k i : ℕ) (x : Stmt) (xs : List Stmt) (e : End) (a c : A) → StateAt f F sol k i (x ∷ xs) e a → F.flow k i x a ≡ Some c → StateAt f F sol k (i + 1) xs e c

-- the point is reached, and the registers are in its file
pub record IsAt {A : Type 0} (f : Function) (F : BodyFlow A) (sol : ℕ → Option A) (c : Control) (registers : List Value) : Type 0 where
  pub file : A
  pub state : StateAt f F sol c.block c.index c.rest c.end file
  pub within : F.In file registers

-- ---- the file at a point, as a function

-- a file carried through statements, of a block from an index on
abbrev pub carried : {A : Type 0} → (ℕ → ℕ → Stmt → A → Option A) → ℕ → ℕ → List Stmt → Option A → Option A
carried flow k i [] o = o
carried flow k i (x ∷ xs) o = carried flow k (i + 1) xs (option_and_then (flow k i x) o)

abbrev pub body_of : Option Block → List Stmt
body_of None = []
body_of (Some b) = b.body

-- the file at the point of this block and index
unfoldable pub file_at : {A : Type 0} → BodyFlow A → (ℕ → Option A) → List Block → ℕ → ℕ → Option A
file_at F sol blocks k i = carried F.flow k 0 (take i (body_of (slice_get blocks k))) (sol k)
