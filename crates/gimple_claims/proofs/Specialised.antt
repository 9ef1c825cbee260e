-- Functions that stand for others, several for one: each where its facts are met.
use Rattle.std.specs.Prelude.{◌≡◌, ℕ, ◌<◌, ℤ, List, [], ◌∷◌, Option, Some, None, Result, Ok, Err}
use Rattle.gimple_ir.specs.declared.program.Function.{Function}
use Rattle.gimple_ir.specs.declared.block.Block.{Block}
use Rattle.gimple_ir.specs.declared.statement.Stmt.{Stmt}
use Rattle.gimple_ir.specs.declared.block.End.{End}
use Rattle.gimple_ir.specs.declared.value.TrapKind.{TrapKind}
use Rattle.gimple_core.specs.Sealed.{Sealed}
use Rattle.gimple_core.specs.State.{State, scope_of, setting_of}
use Rattle.gimple_core.specs.Run.{Calling, call_of, act, values_of, function_named, called_function, main_name, labelled, ToLabel, exit_of, step, Moves, Reaches, CallEntry}
use Rattle.gimple_core.specs.Trace.{Event, main_entry, told, after}
use Rattle.gimple_claims.specs.Runs.{Comes}
use Rattle.gimple_claims.specs.Kept.{new_body}

-- the instances, by number: whose body each stands for, and what it is made of
pub record Instances : Type 0 where
  pub source : ℕ → Function
  pub put : ℕ → ℕ → ℕ → Stmt → Stmt
  pub end : ℕ → ℕ → End → End
  pub name : ℕ → List ℕ
  pub blocks : ℕ → List Block

abbrev pub instance : Instances → ℕ → Function
instance I j = record (I.source j) { name = I.name j; blocks = I.blocks j }

pub record IsMade (I : Instances) (j k : ℕ) (b c : Block) : Type 0 where
  pub body : c.body ≡ new_body (I.put j) k 0 b.body
  pub end : c.end ≡ I.end j k b.end

-- what a search for a block finds in the source, and in the instance
abbrev pub AreMade : Instances → ℕ → Option (ℕ × Block) → Option (ℕ × Block) → Type 0
AreMade I j None None = Unit {0}
AreMade I j None (Some c) = ⊥
AreMade I j (Some b) None = ⊥
AreMade I j (Some (k, b)) (Some (m, c)) = IsMade I j k b c

abbrev pub BeginAlike : Instances → ℕ → List Block → List Block → Type 0
BeginAlike I j [] [] = Unit {0}
BeginAlike I j [] (c ∷ cs) = ⊥
BeginAlike I j (b ∷ bs) [] = ⊥
BeginAlike I j (b ∷ bs) (c ∷ cs) = IsMade I j 0 b c

-- the one program calls a function, and the other one an instance of it whose facts this entry meets
pub record EntersInstance (I : Instances) (Fits : List Event → ℕ → ℕ → Type 0) (p : Sealed) (past : List Event) (s : State) (f : Function) (r : Result Function TrapKind) : Type 0 where
  pub number : ℕ
  pub source : I.source number ≡ f
  pub callee : r ≡ Ok (instance I number)
  pub fits : (t : State) → step p s ≡ Reaches (Moves CallEntry t) → Fits (after past (told p s)) s.next number

-- what a call of each program calls: both trap in the same way, or they enter
abbrev pub CalleesAlike : Instances → (List Event → ℕ → ℕ → Type 0) → Sealed → List Event → State → Result Function TrapKind → Result Function TrapKind → Type 0
CalleesAlike I Fits p past s (Err kind) r = r ≡ Err kind
CalleesAlike I Fits p past s (Ok f) r = EntersInstance I Fits p past s f r

pub record StandsFor (I : Instances) (Fits : List Event → ℕ → ℕ → Type 0) (p : Sealed) (gs : List Function) (past : List Event) (s : State) (x y : Stmt) : Type 0 where
  pub act : call_of x ≡ None → (call_of y ≡ None) × (act (setting_of p) (scope_of s.top) y s.world ≡ act (setting_of p) (scope_of s.top) x s.world)
  pub call : (c : Calling) → call_of x ≡ Some c → (d : Calling) × (call_of y ≡ Some d) × (d.to ≡ c.to)
      × (values_of p.program.globals (scope_of s.top) s.world.registers d.arguments ≡ values_of p.program.globals (scope_of s.top) s.world.registers c.arguments)
      × CalleesAlike I Fits p past s (called_function p.program.functions (scope_of s.top) s.world.registers c.callee) (called_function gs (scope_of s.top) s.world.registers d.callee)

abbrev pub MainsAlike : Instances → (List Event → ℕ → ℕ → Type 0) → (State → List Event) → Option Function → Option Function → Type 0
MainsAlike I Fits past None None = Unit {0}
MainsAlike I Fits past None (Some g) = ⊥
MainsAlike I Fits past (Some f) None = ⊥
MainsAlike I Fits past (Some f) (Some g) = (j : ℕ) × (I.source j ≡ f) × (g ≡ instance I j) × ((s : State) → Fits (past s) 0 j)

-- What a program made of instances owes.
pub record Specialises (I : Instances) (Fits : List Event → ℕ → ℕ → Type 0) (p : Sealed) (gs : List Function) (input : List ℤ) : Type 0 where
  pub begin : (j : ℕ) → function_named (I.source j).name p.program.functions ≡ Some (I.source j) → BeginAlike I j (I.source j).blocks (I.blocks j)
  pub mains : MainsAlike I Fits (λ s. main_entry p s ∷ []) (function_named main_name p.program.functions) (function_named main_name gs)
  -- an activation that meets its facts goes on meeting them
  pub keeps : (past : List Event) (s : State) (serial j : ℕ) → Comes p input past s → serial < s.next → Fits past serial j → Fits (after past (told p s)) serial j
  pub stmt : (past : List Event) (s : State) (x : Stmt) (xs : List Stmt) (j : ℕ) → Comes p input past s → I.source j ≡ s.top.function → Fits past s.top.serial j → s.top.rest ≡ x ∷ xs →
      StandsFor I Fits p gs past s x (I.put j s.top.block s.top.index x)
  pub end : (past : List Event) (s : State) (j : ℕ) → Comes p input past s → I.source j ≡ s.top.function → Fits past s.top.serial j → s.top.rest ≡ [] → exit_of p.program.globals (I.end j s.top.block s.top.end) s ≡ exit_of p.program.globals s.top.end s
  pub jump : (past : List Event) (s : State) (label j : ℕ) → Comes p input past s → I.source j ≡ s.top.function → Fits past s.top.serial j → s.top.rest ≡ [] → exit_of p.program.globals s.top.end s ≡ ToLabel label →
      AreMade I j (labelled label s.top.function.blocks) (labelled label (I.blocks j))
