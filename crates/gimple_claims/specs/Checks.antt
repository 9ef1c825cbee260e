-- What the checks of a program without a type fault say of its functions and of its runs.
use Rattle.std.specs.Prelude.{◌≡◌, ℕ, ℤ, true, List, [], ◌∷◌, Some, None, Result, Ok, Err}
use Rattle.std.specs.List.{AllByRecursion}
use Rattle.gimple_ir.specs.declared.statement.Stmt.{Stmt}
use Rattle.gimple_ir.specs.declared.statement.Stmt.TheVariants.{Abort}
use Rattle.gimple_ir.specs.declared.value.TrapKind.{TrapKind}
use Rattle.gimple_ir.specs.declared.value.TrapKind.TheVariants.{NullAccess, BadCall, Abort as AbortTrap}
use Rattle.gimple_ir.specs.declared.block.Block.{Block}
use Rattle.gimple_ir.specs.declared.program.Function.{Function}
use Rattle.gimple_ir.specs.declared.program.Program.{Program}
use Rattle.gimple_core.specs.Sealed.{Sealed}
use Rattle.gimple_core.specs.State.{State, scope_of}
use Rattle.gimple_core.specs.Run.{Reaches, Traps, Callee, Through, Calling, call_of, function_named, called_function, labelled, ToLabel, exit_of, step, start}
use Rattle.gimple_core.specs.Trace.{Event}
use Rattle.gimple_core.specs.Env.{Env, Names, functions_by_name}
pub use Rattle.gimple_core.specs.Typed.{env_of}
use Rattle.gimple_core.specs.Statements.{statement, ending}
use Rattle.gimple_core.specs.Declarations.{has_blocks}
use Rattle.gimple_core.specs.Accepted.{first_fault}
use Rattle.gimple_claims.specs.Runs.{Comes}

abbrev pub StmtsPass : Env → Names Function → List Stmt → Type 0
StmtsPass env names xs = AllByRecursion (λ x. statement env names x ≡ Ok tt) xs

pub record BlockPasses (env : Env) (names : Names Function) (b : Block) : Type 0 where
  pub body : StmtsPass env names b.body
  pub end : ending env b.end ≡ Ok tt

abbrev pub BlocksPass : Env → Names Function → List Block → Type 0
BlocksPass env names bs = AllByRecursion (BlockPasses env names) bs

-- the function has blocks, and each of its statements and ends passes its checks
pub record IsChecked (p : Program) (f : Function) : Type 0 where
  pub some : has_blocks f.blocks ≡ true
  pub blocks : BlocksPass (env_of p f) (functions_by_name p.functions) f.blocks

-- of each function of an accepted program
abbrev pub FunctionsAreChecked : Type 0
FunctionsAreChecked = (p : Program) → first_fault p ≡ None → (name : List ℕ) (f : Function) → function_named name p.functions ≡ Some f → IsChecked p f

-- only a call through a register traps, where the register holds null or no function of the written signature
abbrev pub MayTrap : Callee → TrapKind → Type 0
MayTrap (Through name signature) NullAccess = Unit {0}
MayTrap (Through name signature) BadCall = Unit {0}
MayTrap callee kind = ⊥

-- what is called has a block to enter, or the call traps
abbrev pub IsCalled : Callee → Result Function TrapKind → Type 0
IsCalled callee (Ok f) = has_blocks f.blocks ≡ true
IsCalled callee (Err kind) = MayTrap callee kind

-- the function of a call by name, and the block that an end leads to, are there
pub record NothingLost (p : Program) (s : State) : Type 0 where
  pub calls : (x : Stmt) (xs : List Stmt) (c : Calling) → s.top.rest ≡ x ∷ xs → call_of x ≡ Some c → IsCalled c.callee (called_function p.functions (scope_of s.top) s.world.registers c.callee)
  pub jumps : (label : ℕ) → s.top.rest ≡ [] → exit_of p.globals s.top.end s ≡ ToLabel label → (k : ℕ) × (b : Block) × (labelled label s.top.function.blocks ≡ Some (k, b))

-- an accepted program begins to run
abbrev pub RunsBegin : Type 0
RunsBegin = (p : Sealed) → first_fault p.program ≡ None → (input : List ℤ) → (s : State) × (start p input ≡ Some s)

-- in each state of each run of an accepted program
abbrev pub NothingIsLost : Type 0
NothingIsLost = (p : Sealed) → first_fault p.program ≡ None → (input : List ℤ) (past : List Event) (s : State) → Comes p input past s → NothingLost p.program s

-- a step of a run of an accepted program that traps with `Abort` is the statement `abort`
abbrev pub AbortsOfAbort : Type 0
AbortsOfAbort = (p : Sealed) → first_fault p.program ≡ None → (input : List ℤ) (past : List Event) (s : State) (output : List ℕ) → Comes p input past s → step p s ≡ Reaches (Traps output AbortTrap) → (xs : List Stmt) × (s.top.rest ≡ Abort ∷ xs)
