-- The system of equations of an analysis of a body.
use Rattle.std.specs.Prelude.{◌≡◌, ℕ, ◌<◌, ◌^◌, ◌==◌, Bool, if◌then◌else◌, List, [], take, length, Option, Some, None, slice_get}
use Rattle.gimple_ir.specs.declared.statement.Stmt.{Stmt}
use Rattle.gimple_ir.specs.declared.block.Block.{Block}
use Rattle.fix_engine.specs.declared.lifted.Lifted.{Lifted}
use Rattle.fix_engine.specs.declared.lifted.Lifted.TheVariants.{NotReached}
use Rattle.fix_engine.specs.Lifted.{FitsLifted, lifted_below}
use Rattle.fix_engine.specs.Least.{Equations, IsSolution, IsLeast}
use Rattle.block_flow.specs.declared.branch.Branch.{Branch}
use Rattle.block_flow.specs.Branches.{branches_of}
use Rattle.block_flow.specs.Steps.{BodySteps, where_reached, after_statements}

-- ---- a node is a block, an edge is a branch

abbrev pub along_block : {A : Type 0} → BodySteps A → Branch → Option Block → Lifted A → Lifted A
along_block T branch None x = NotReached
along_block T branch (Some b) x = where_reached (after_statements T.statement branch.source 0 b.body x) (T.branch branch.source b.end branch.slot)

-- the value at the begin of a block carried through the block and along a branch
unfoldable pub along : {A : Type 0} → BodySteps A → List Block → Option Branch → Lifted A → Lifted A
along T blocks None x = NotReached
along T blocks (Some branch) x = along_block T branch (slice_get blocks branch.source) x

abbrev pub source_of : Option Branch → ℕ
source_of None = 0
source_of (Some branch) = branch.source

abbrev pub to_of : Option Branch → ℕ
to_of None = 0
to_of (Some branch) = branch.target

abbrev pub start_value : {A : Type 0} → Lifted A → ℕ → Lifted A
start_value entry n = if n == 0 then entry else NotReached

abbrev pub equations_of : {A : Type 0} → BodySteps A → List Block → Equations (Lifted A)
equations_of T blocks = record {
  nodes = length blocks;
  edges = length (branches_of blocks);
  source = λ e. source_of (slice_get (branches_of blocks) e);
  target = λ e. to_of (slice_get (branches_of blocks) e);
  start = start_value T.begin;
  flow = λ e x. along T blocks (slice_get (branches_of blocks) e) x;
}

-- a solution, as the values at the begins of blocks
abbrev pub Solves : {A : Type 0} → (List ℕ → A → Type 0) → (A → A → Bool) → List ℕ → BodySteps A → List Block → List (Lifted A) → Type 0
Solves fits below kind T blocks xs = IsSolution (FitsLifted fits kind) (lifted_below below) (equations_of T blocks) xs

-- the values at the begins of blocks: the least solution
abbrev pub AreBegins : {A : Type 0} → (List ℕ → A → Type 0) → (A → A → Bool) → List ℕ → BodySteps A → List Block → List (Lifted A) → Type 0
AreBegins fits below kind T blocks xs = IsLeast (FitsLifted fits kind) (lifted_below below) (equations_of T blocks) xs

-- ---- each point

abbrev pub body_at : Option Block → List Stmt
body_at None = []
body_at (Some b) = b.body

abbrev pub value_or : {A : Type 0} → Option (Lifted A) → Lifted A
value_or None = NotReached
value_or (Some x) = x

-- the value at the point of this block and index, by those at the begins of blocks
unfoldable pub point_value : {A : Type 0} → BodySteps A → List Block → List (Lifted A) → ℕ → ℕ → Lifted A
point_value T blocks xs k i = after_statements T.statement k 0 (take i (body_at (slice_get blocks k))) (value_or (slice_get xs k))

-- blocks, their statements and branches have numbers
pub record AreFew (blocks : List Block) (branches : ℕ) : Type 0 where
  pub blocks_few : length blocks < 2 ^ 32
  pub branches_few : branches < 2 ^ 32
  pub bodies_few : (k : ℕ) (b : Block) → slice_get blocks k ≡ Some b → length b.body < 2 ^ 32
