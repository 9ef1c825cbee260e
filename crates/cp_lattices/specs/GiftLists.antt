-- What the calls of a program give, in a list: function by function, block by block, statement by statement, argument by argument.
use Rattle.std.specs.Prelude.{◌≡◌, ℕ, zero, suc, ◌<◌, List, [], ◌∷◌, ◌++◌, length, Option, Some, None, position, slice_get, slice_index_or}
use Rattle.std.specs.Str.{bytes_eq}
use Rattle.gimple_ir.specs.declared.block.Block.{Block}
use Rattle.gimple_ir.specs.declared.declarations.Register.{Register}
use Rattle.gimple_ir.specs.declared.operand.Operand.{Operand}
use Rattle.gimple_ir.specs.declared.point.Point.{Point}
use Rattle.gimple_ir.specs.declared.program.Function.{Function}
use Rattle.gimple_ir.specs.declared.program.Program.{Program}
use Rattle.gimple_ir.specs.declared.statement.Stmt.{Stmt}
use Rattle.gimple_ir.specs.declared.statement.Stmt.TheVariants.{Call}
use Rattle.gimple_core.specs.Sealed.{Sealed}
use Rattle.fix_engine.specs.declared.lifted.Lifted.{Lifted}
use Rattle.fix_engine.specs.declared.lifted.Lifted.TheVariants.{NotReached, Reached}
use Rattle.value_domain.specs.declared.abs_val.AbsVal.{AbsVal}
use Rattle.value_domain.specs.Thresholds.{thresholds_list}
use Rattle.body_symbols.specs.declared.jumps.JumpFn.{JumpFn}
use Rattle.body_symbols.specs.Found.{Found}
use Rattle.body_symbols.specs.Jumps.{jumps_in}
use Rattle.body_values.specs.Bodies.{Body, operand_value}
use Rattle.body_values.specs.Flow.{AreValues}
use Rattle.body_values.specs.Found.{point_row}
use Rattle.body_values.specs.TopFacts.{top_facts}
use Rattle.cp_lattices.specs.declared.gift.Gift.{Gift}
use Rattle.cp_lattices.specs.Gifts.{Bodies, top_body}

-- the lists under the numbers below one, in order
unfoldable pub lists_below : ℕ → (ℕ → List Gift) → List Gift
lists_below zero f = []
lists_below (suc n) f = lists_below n f ++ f n

-- What the gifts of the calls of one function depend on: its program, its number, its symbols, and what its values depend on.
pub record Giver : Type 0 where
  pub program : Program
  pub number : ℕ
  pub function : Function
  pub symbols : Found
  pub body : Body

-- ---- a call

-- what one argument gives to a formal, by the number of the function that calls, and by those of the called one and of the formal
abbrev pub gift_of : Body → ℕ → ℕ → ℕ → List AbsVal → Register → Operand → JumpFn → Gift
gift_of B n m j row r x f = record { caller = n; callee = m; formal = j; scalar = r.scalar; jump = f; local = operand_value B row r.scalar x }

abbrev pub argument_gifts : Body → ℕ → ℕ → ℕ → List AbsVal → Option Register → Option Operand → Option JumpFn → List Gift
argument_gifts B n m j row None x f = []
argument_gifts B n m j row (Some r) None f = []
argument_gifts B n m j row (Some r) (Some x) None = []
argument_gifts B n m j row (Some r) (Some x) (Some f) = gift_of B n m j row r x f ∷ []

-- what all arguments give to formals
abbrev pub given_to : Body → ℕ → ℕ → List AbsVal → List Register → List Operand → List JumpFn → List Gift
given_to B n m row rs xs fs = lists_below (length xs) (λ j. argument_gifts B n m j row (slice_get rs j) (slice_get xs j) (slice_get fs j))

-- to those of the function of a number, if there is one
abbrev pub given_callee : Body → ℕ → ℕ → List AbsVal → List Operand → List JumpFn → Option Function → List Gift
given_callee B n m row xs fs None = []
given_callee B n m row xs fs (Some g) = given_to B n m row g.params xs fs

abbrev pub given_named : Giver → List AbsVal → List Operand → List JumpFn → Option ℕ → List Gift
given_named G row xs fs None = []
given_named G row xs fs (Some m) = given_callee G.body G.number m row xs fs (slice_get G.program.functions m)

-- the jump functions of the call at a point
abbrev pub jumps_there : Giver → Point → List JumpFn
jumps_there G at = jumps_in G.program G.program.globals G.function.locals G.symbols at

-- to those of the function of a name
unfoldable pub call_gifts : Giver → Point → List AbsVal → List ℕ → List Operand → List Gift
call_gifts G at row name xs = given_named G row xs (jumps_there G at) (position (λ f. bytes_eq f.name name) G.program.functions)

-- ---- a body

-- what a statement gives by the values before it
unfoldable pub statement_gifts : Giver → Point → Lifted (List AbsVal) → Stmt → List Gift
statement_gifts G at NotReached x = []
statement_gifts G at (Reached row) (Call to name xs) = call_gifts G at row name xs
statement_gifts G at (Reached row) x = []

abbrev pub point_gifts : Giver → (ℕ → ℕ → Lifted (List AbsVal)) → ℕ → ℕ → Option Stmt → List Gift
point_gifts G rows k i None = []
point_gifts G rows k i (Some x) = statement_gifts G (record { function = G.number; block = k; index = i }) (rows k i) x

abbrev pub body_gifts : Giver → (ℕ → ℕ → Lifted (List AbsVal)) → ℕ → List Stmt → List Gift
body_gifts G rows k body = lists_below (length body) (λ i. point_gifts G rows k i (slice_get body i))

abbrev pub block_gifts : Giver → (ℕ → ℕ → Lifted (List AbsVal)) → ℕ → Option Block → List Gift
block_gifts G rows k None = []
block_gifts G rows k (Some b) = body_gifts G rows k b.body

-- what all statements give
abbrev pub function_gifts : Giver → (ℕ → ℕ → Lifted (List AbsVal)) → List Gift
function_gifts G rows = lists_below (length G.function.blocks) (λ k. block_gifts G rows k (slice_get G.function.blocks k))

-- ---- a program

-- a function by its values from top facts
abbrev pub giver_of : Sealed → ℕ → ℕ → Function → Found → Giver
giver_of p most n f symbols = record { program = p.program; number = n; function = f; symbols = symbols; body = top_body p n f most }

abbrev pub top_rows : Sealed → ℕ → ℕ → Function → List (Lifted (List AbsVal)) → ℕ → ℕ → Lifted (List AbsVal)
top_rows p most n f begins k i = point_row (top_body p n f most) f.blocks begins k i

-- what the calls of the function of a number give, by the values at the begins of its blocks
abbrev pub own_gifts : Sealed → ℕ → ℕ → List (Lifted (List AbsVal)) → Option Function → Option Found → List Gift
own_gifts p most n begins None s = []
own_gifts p most n begins (Some f) None = []
own_gifts p most n begins (Some f) (Some s) = function_gifts (giver_of p most n f s) (top_rows p most n f begins)

-- and those of the first functions, as many as the number says
abbrev pub gifts_below : Sealed → ℕ → Bodies → ℕ → List Gift
gifts_below p most bodies count = lists_below count (λ n. own_gifts p most n (slice_index_or bodies.begins n []) (slice_get p.program.functions n) (slice_get bodies.symbols n))

-- ---- what is gathered one function after another

-- behind the gifts before stand those of the function of this number
pub record AddsFunction (p : Sealed) (most n : ℕ) (symbols : Found) (before after : List Gift) : Type 0 where
  pub function : Function
  pub own : slice_get p.program.functions n ≡ Some function
  pub begins : List (Lifted (List AbsVal))
  pub values : AreValues p n function (top_facts function) most (thresholds_list p.program) begins
  pub are : after ≡ before ++ function_gifts (giver_of p most n function symbols) (top_rows p most n function begins)

-- these are the gifts of the first functions
pub record WereGatheredBelow (p : Sealed) (most : ℕ) (symbols : List Found) (count : ℕ) (gifts : List Gift) : Type 0 where
  pub begins : List (List (Lifted (List AbsVal)))
  pub one_each : length begins ≡ count
  pub values : (n : ℕ) (f : Function) → n < count → slice_get p.program.functions n ≡ Some f → AreValues p n f (top_facts f) most (thresholds_list p.program) (slice_index_or begins n [])
  pub are : gifts ≡ gifts_below p most (record { symbols = symbols; begins = begins }) count
