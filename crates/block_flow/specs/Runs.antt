-- What makes an analysis of a body right in the runs of a program.
use Rattle.std.specs.Prelude.{◌≡◌, ℕ, ℤ, Bool, true, List, [], ◌∷◌, Option, Some, None, Ok, slice_get}
use Rattle.gimple_ir.specs.declared.value.Value.{Value}
use Rattle.gimple_ir.specs.declared.program.Function.{Function}
use Rattle.gimple_ir.specs.declared.block.Block.{Block}
use Rattle.gimple_ir.specs.declared.statement.Stmt.{Stmt}
use Rattle.gimple_core.specs.Sealed.{Sealed}
use Rattle.gimple_core.specs.Memory.{Memory, without_frame}
use Rattle.gimple_core.specs.State.{Control, World, State, scope_of, setting_of}
use Rattle.gimple_core.specs.Run.{Calling, call_of, act, Reaches, Moves, CallEntry, ToLabel, Returns, exit_of, resumed, step, given, labelled, taking, control_made, registers_made, with_locals, function_named}
use Rattle.gimple_core.specs.Trace.{Event, Entry, At, Load, Store, Leave, told, after}
use Rattle.gimple_claims.specs.Runs.{Comes}
use Rattle.gimple_claims.specs.Typed.{frame_typed}
use Rattle.gimple_claims.proofs.Comes.{InDid}
use Rattle.fix_engine.specs.declared.lifted.Lifted.{Lifted}
use Rattle.fix_engine.specs.declared.lifted.Lifted.TheVariants.{NotReached, Reached}
use Rattle.block_flow.specs.Branches.{labels_of}
use Rattle.block_flow.specs.Steps.{BodySteps}
use Rattle.block_flow.specs.System.{point_value}

-- it is reached, with a value of which this holds
abbrev pub ReachedWith : {A : Type 0} → (A → Type 0) → Lifted A → Type 0
ReachedWith P NotReached = ⊥
ReachedWith P (Reached a) = P a

-- What an analysis says. `Given` is what it takes for granted of an activation, by its serial and the events so far.
-- `Says` is what a value says of the running activation, by the events so far, where it is, and the world. `Waits` is what
-- the value after a call says of an activation that waits for its result: by the events so far, where it goes on, its
-- registers as they wait, the one that takes the result, and the memory as it is now.
pub record Assertion (A : Type 0) : Type 1 where
  pub Given : ℕ → List Event → Type 0
  pub Says : A → List Event → Control → World → Type 0
  pub Waits : Lifted A → List Event → Control → List Value → Option ℕ → Memory → Type 0

-- What an analysis owes of one run. In each case the state comes up, the activation is of the function, and what it takes
-- for granted holds up to the events of this step; the registers that the step leaves hold values of their scalars.
pub record IsSound (p : Sealed) (input : List ℤ) (f : Function) {A : Type 0} (fits : A → Type 0) (below : A → A → Bool) (T : BodySteps A) (S : Assertion A) : Type 0 where
  -- what was given is given before
  pub earlier : (serial : ℕ) (past es : List Event) → S.Given serial (after past es) → S.Given serial past
  -- a value above says less
  pub rises : (a b : A) (past : List Event) (c : Control) (w : World) → fits a → fits b → below a b ≡ true → S.Says a past c w → S.Says b past c w
  -- at the entry
  pub enters : (past : List Event) (serial : ℕ) (arguments : List Value) (m : Memory) (caller : Option Control) (takes : Option ℕ) (b : Block) (bs : List Block) (w : World) → function_named f.name p.program.functions ≡ Some f → f.blocks ≡ b ∷ bs →
      w.registers ≡ registers_made f arguments → w.memory ≡ with_locals p.program.structs serial 0 f.locals m → S.Given serial (Entry serial f arguments m caller ∷ past) → frame_typed (control_made f b serial takes) w.registers ≡ true →
      ReachedWith (λ a. S.Says a (Entry serial f arguments m caller ∷ past) (control_made f b serial takes) w) T.begin
  -- a statement that is no call
  pub statement : (past : List Event) (s : State) (x : Stmt) (xs : List Stmt) (w : World) (a : A) → Comes p input past s → s.top.function ≡ f → s.top.rest ≡ x ∷ xs → call_of x ≡ None → act (setting_of p) (scope_of s.top) x s.world ≡ Ok w →
      S.Given s.top.serial (after past (told p s)) → frame_typed s.top w.registers ≡ true → fits a → S.Says a past s.top s.world → ReachedWith (λ b. S.Says b (after past (told p s)) (resumed s xs).top w) (T.statement s.top.block s.top.index x a)
  -- a call begins, and the caller waits
  pub calls : (past : List Event) (s : State) (x : Stmt) (xs : List Stmt) (c : Calling) (t : State) (a : A) → Comes p input past s → s.top.function ≡ f → s.top.rest ≡ x ∷ xs → call_of x ≡ Some c → step p s ≡ Reaches (Moves CallEntry t) →
      S.Given s.top.serial (after past (told p s)) → fits a → S.Says a past s.top s.world → S.Waits (T.statement s.top.block s.top.index x a) (after past (told p s)) (resumed s xs).top s.world.registers (taking (scope_of s.top) c.to) t.world.memory
  -- it waits through each step of another activation
  pub others : (past : List Event) (s : State) (c : Control) (registers : List Value) (takes : Option ℕ) (y : Lifted A) → Comes p input past s → S.Given c.serial (after past (told p s)) → S.Waits y past c registers takes s.world.memory →
      InDid (λ t. S.Waits y (after past (told p s)) c registers takes t.world.memory) (step p s)
  -- the call returns
  pub back : (past : List Event) (s : State) (c : Control) (registers : List Value) (v : Option Value) (y : Lifted A) → Comes p input past s → c.function ≡ f → s.top.rest ≡ [] → exit_of p.program.globals s.top.end s ≡ Returns v →
      S.Given c.serial (after past (told p s)) → frame_typed c (given registers s.top.takes v) ≡ true → S.Waits y past c registers s.top.takes s.world.memory →
      ReachedWith (λ a. S.Says a (after past (told p s)) c (record s.world { registers = given registers s.top.takes v; memory = without_frame s.top.serial s.world.memory })) y
  -- an end leads to a label, by some branch of it
  pub jumps : (past : List Event) (s : State) (label k : ℕ) (b : Block) (a : A) → Comes p input past s → s.top.function ≡ f → s.top.rest ≡ [] → exit_of p.program.globals s.top.end s ≡ ToLabel label → labelled label f.blocks ≡ Some (k, b) →
      S.Given s.top.serial (after past (told p s)) → fits a → S.Says a past s.top s.world →
      (slot : ℕ) × (slice_get (labels_of s.top.end) slot ≡ Some label) × ReachedWith (λ c. S.Says c (after past (told p s)) (record s.top { block = k; index = 0; rest = b.body; end = b.end }) s.world) (T.branch s.top.block s.top.end slot a)

-- at each point at which an activation of the function is of which this is given, the point is reached, and what the value there says holds
abbrev pub PointClaim : {A : Type 0} → Function → BodySteps A → Assertion A → List (Lifted A) → List Event → Event → Type 0
PointClaim f T S xs past (Entry serial g arguments m caller) = Unit {0}
PointClaim f T S xs past (At c w) = c.function ≡ f → S.Given c.serial past → ReachedWith (λ a. S.Says a past c w) (point_value T f.blocks xs c.block c.index)
PointClaim f T S xs past (Load c scalar object offset v) = Unit {0}
PointClaim f T S xs past (Store c scalar object offset v) = Unit {0}
PointClaim f T S xs past (Leave serial) = Unit {0}
