-- The functions that a program mentions, and those that main reaches.
use Rattle.std.specs.Prelude.{◌≡◌, ◌↔◌, ℕ, ℤ, Bool, List, [], ◌∷◌, ◌++◌, Option, Some, None, IsTrue, filter}
use Rattle.std.specs.Prelude.{Contains}
use Rattle.gimple_ir.specs.declared.operand.Operand.{Operand}
use Rattle.gimple_ir.specs.declared.operand.Operand.TheVariants.{Address}
use Rattle.gimple_ir.specs.declared.declarations.Global.{Global}
use Rattle.gimple_ir.specs.declared.statement.Stmt.{Stmt}
use Rattle.gimple_ir.specs.declared.statement.Stmt.TheVariants.{Copy, Arith, Compare, Convert, Load, Store, Call, Indirect, Get, Put, Abort}
use Rattle.gimple_ir.specs.declared.block.End.{End}
use Rattle.gimple_ir.specs.declared.block.End.TheVariants.{Goto, If, Switch, Return}
use Rattle.gimple_ir.specs.declared.block.Block.{Block}
use Rattle.gimple_ir.specs.declared.program.Function.{Function}
use Rattle.gimple_ir.specs.declared.program.Program.{Program}
use Rattle.gimple_core.specs.Sealed.{Sealed}
use Rattle.gimple_core.specs.Run.{Calling, Named, call_of, function_named, main_name, Run}

-- ---- what stands in a body

-- the operands of a statement, from left to right; a place's base is none
abbrev pub operands_of : Stmt → List Operand
operands_of (Copy to from) = from ∷ []
operands_of (Arith to left op right) = left ∷ right ∷ []
operands_of (Compare to left cmp right) = left ∷ right ∷ []
operands_of (Convert to scalar from) = from ∷ []
operands_of (Load to scalar place) = []
operands_of (Store scalar place from) = from ∷ []
operands_of (Call to callee arguments) = arguments
operands_of (Indirect to signature callee arguments) = arguments
operands_of (Get to) = []
operands_of (Put from) = from ∷ []
operands_of Abort = []

abbrev pub operands_of_end : End → List Operand
operands_of_end (Goto target) = []
operands_of_end (If left cmp right hit miss) = left ∷ right ∷ []
operands_of_end (Switch on cases other) = on ∷ []
operands_of_end (Return None) = []
operands_of_end (Return (Some x)) = x ∷ []

-- one of the operands is the address of this name
abbrev pub TakesAddress : List ℕ → List Operand → Type 0
TakesAddress name operands = (offset : ℤ) × Contains operands (Address name offset)

-- a function of this name is called by name, or its address is taken
pub data Mentions (name : List ℕ) (x : Stmt) : Type 0 where
  calls : (c : Calling) → call_of x ≡ Some c → c.callee ≡ Named name → Mentions name x
  addresses : TakesAddress name (operands_of x) → Mentions name x

pub data MentionsIn (name : List ℕ) : List Stmt → Type 0 where
  here : (x : Stmt) (xs : List Stmt) → Mentions name x → MentionsIn name (x ∷ xs)
  later : (x : Stmt) (xs : List Stmt) → MentionsIn name xs → MentionsIn name (x ∷ xs)

-- in a statement or an end of the blocks
pub data MentionsInBlocks (name : List ℕ) : List Block → Type 0 where
  body : (b : Block) (bs : List Block) → MentionsIn name b.body → MentionsInBlocks name (b ∷ bs)
  end : (b : Block) (bs : List Block) → TakesAddress name (operands_of_end b.end) → MentionsInBlocks name (b ∷ bs)
  later : (b : Block) (bs : List Block) → MentionsInBlocks name bs → MentionsInBlocks name (b ∷ bs)

-- in an item of the globals
pub data MentionsInItems (name : List ℕ) : List Global → Type 0 where
  here : (g : Global) (gs : List Global) → TakesAddress name g.items → MentionsInItems name (g ∷ gs)
  later : (g : Global) (gs : List Global) → MentionsInItems name gs → MentionsInItems name (g ∷ gs)

-- ---- what main reaches

-- main, what an item addresses, and what a function that is reached calls or addresses, in any block
pub data IsReached (p : Program) : List ℕ → Type 0 where
  main : IsReached p main_name
  item : (name : List ℕ) (f : Function) → MentionsInItems name p.globals → function_named name p.functions ≡ Some f → IsReached p name
  mentioned : (name : List ℕ) (f : Function) (other : List ℕ) (g : Function) → IsReached p name → function_named name p.functions ≡ Some f →
      MentionsInBlocks other f.blocks → function_named other p.functions ≡ Some g → IsReached p other

-- a set of names that has main, the functions that items mention, and those that its functions mention
pub record IsClosed (p : Program) (keeps : List ℕ → Bool) : Type 0 where
  pub main : IsTrue (keeps main_name)
  pub items : (name : List ℕ) (f : Function) → MentionsInItems name p.globals → function_named name p.functions ≡ Some f → IsTrue (keeps name)
  pub bodies : (name : List ℕ) (f : Function) (other : List ℕ) (g : Function) → IsTrue (keeps name) → function_named name p.functions ≡ Some f →
      MentionsInBlocks other f.blocks → function_named other p.functions ≡ Some g → IsTrue (keeps other)

-- ---- whose address is taken

-- the address of the function of this name is taken in a function or an item, reached or not
pub data AddressedIn (name : List ℕ) : List Block → Type 0 where
  body : (b : Block) (bs : List Block) (x : Stmt) → Contains b.body x → TakesAddress name (operands_of x) → AddressedIn name (b ∷ bs)
  end : (b : Block) (bs : List Block) → TakesAddress name (operands_of_end b.end) → AddressedIn name (b ∷ bs)
  later : (b : Block) (bs : List Block) → AddressedIn name bs → AddressedIn name (b ∷ bs)

pub data IsAddressed (p : Program) (name : List ℕ) : Type 0 where
  item : MentionsInItems name p.globals → IsAddressed p name
  body : (f : Function) → Contains p.functions f → AddressedIn name f.blocks → IsAddressed p name

-- ---- programs without some functions

-- the program with the functions whose names are in the set, in their order
abbrev pub with_kept : (List ℕ → Bool) → Program → Program
with_kept keeps p = record p { functions = filter (λ f. keeps f.name) p.functions }

-- the program with the functions that are reached, in their order
pub record IsWithoutUnreached (p q : Program) : Type 0 where
  pub keeps : List ℕ → Bool
  pub reached : (name : List ℕ) → IsTrue (keeps name) ↔ IsReached p name
  pub program : q ≡ with_kept keeps p

-- a program runs as before without the functions outside a closed set
abbrev pub KeptRuns : Type 0
KeptRuns = (p : Sealed) (keeps : List ℕ → Bool) → IsClosed p.program keeps → (input : List ℤ) (n : ℕ) → Run (record p { program = with_kept keeps p.program }) input n ≡ Run p input n

-- a program runs as before without the functions that main does not reach
abbrev pub ReachedRuns : Type 0
ReachedRuns = (p q : Sealed) → IsWithoutUnreached p.program q.program → q.mode ≡ p.mode → (input : List ℤ) (n : ℕ) → Run q input n ≡ Run p input n
