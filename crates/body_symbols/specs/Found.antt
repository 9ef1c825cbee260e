-- The symbols of a function at each of its points.
use Rattle.std.specs.Prelude.{◌≡◌, ℕ, ◌+◌, ◌==◌, nat_le, not, Bool, true, false, if◌then◌else◌, List, [], ◌∷◌, ◌++◌, take, length, Option, Some, None, IsSomeAnd, slice_get}
use Rattle.std.specs.List.{list_any}
use Rattle.gimple_ir.specs.declared.operand.Operand.{Operand}
use Rattle.gimple_ir.specs.declared.operand.Operand.TheVariants.{Reg, Number, Null as NullOperand, Address}
use Rattle.gimple_ir.specs.declared.declarations.Decl.{Decl}
use Rattle.gimple_ir.specs.declared.declarations.Global.{Global as GlobalDef}
use Rattle.gimple_ir.specs.declared.declarations.Register.{Register}
use Rattle.gimple_ir.specs.declared.point.Point.{Point}
use Rattle.gimple_ir.specs.declared.statement.Stmt.{Stmt}
use Rattle.gimple_ir.specs.declared.block.Block.{Block}
use Rattle.gimple_ir.specs.declared.value.Constant.TheVariants.{Int, Null}
use Rattle.gimple_ir.specs.declared.program.Function.{Function}
use Rattle.gimple_ir.specs.declared.program.Program.{Program}
use Rattle.gimple_core.specs.Sealed.{Sealed}
use Rattle.fix_engine.specs.declared.lifted.Lifted.{Lifted}
use Rattle.fix_engine.specs.declared.lifted.Lifted.TheVariants.{NotReached, Reached}
use Rattle.fix_engine.specs.Rows.{FitsRows, rows_below}
use Rattle.block_flow.specs.System.{AreBegins, value_or, point_value}
use Rattle.body_symbols.specs.declared.symbol.Symbol.{Symbol}
use Rattle.body_symbols.specs.declared.symbol.Symbol.TheVariants.{Const}
use Rattle.body_symbols.specs.declared.change.Change.{Change}
use Rattle.body_symbols.specs.declared.change.Change.TheVariants.{Nothing, Sets, Ends}
use Rattle.body_symbols.specs.Order.{symbol_below, FitsSymbol}
use Rattle.body_symbols.specs.Bodies.{Body, body_of, place_of, address_symbol, change_of, changed, symbol_steps}

-- of the function of this number
abbrev pub OfFunction : Program → ℕ → (Function → Type 0) → Type 0
OfFunction p n P = IsSomeAnd (slice_get p.functions n) P

-- The number of a function, its registers with the formals first, the symbols at the begin of each block, and what each
-- statement of each block changes in them.
pub record Found : Type 0 where
  pub function : ℕ
  pub registers : List Register
  pub begins : List (Lifted (List Symbol))
  pub changes : List (List Change)

-- ---- the symbols at a point

-- behind a point that is not reached none is
abbrev pub changed_row : Lifted (List Symbol) → Change → Lifted (List Symbol)
changed_row NotReached c = NotReached
changed_row (Reached row) c = changed row c

abbrev pub changed_by : Lifted (List Symbol) → List Change → Lifted (List Symbol)
changed_by x [] = x
changed_by x (c ∷ cs) = changed_by (changed_row x c) cs

-- behind the first changes, as many as the number says; past the last one nothing is reached
abbrev pub row_after : Lifted (List Symbol) → List Change → ℕ → Lifted (List Symbol)
row_after x cs i = if nat_le i (length cs) then changed_by x (take i cs) else NotReached

abbrev pub row_in : Option (Lifted (List Symbol)) → Option (List Change) → ℕ → Lifted (List Symbol)
row_in None cs i = NotReached
row_in (Some x) None i = NotReached
row_in (Some x) (Some cs) i = row_after x cs i

-- the symbols at the point of this block and index; of no point there are none
abbrev pub found_row : Found → ℕ → ℕ → Lifted (List Symbol)
found_row t k i = row_in (slice_get t.begins k) (slice_get t.changes k) i

-- the symbol of a register of this number, where the point is reached and there is one
abbrev pub register_symbol : ℕ → Lifted (List Symbol) → Option Symbol
register_symbol place NotReached = None
register_symbol place (Reached row) = slice_get row place

abbrev pub if_reached : Lifted (List Symbol) → Symbol → Option Symbol
if_reached NotReached a = None
if_reached (Reached row) a = Some a

-- the symbol of an operand where the registers have these symbols
unfoldable pub symbol_in : List GlobalDef → List Decl → List Register → Lifted (List Symbol) → Operand → Option Symbol
symbol_in globals locals registers x (Reg name) = register_symbol (place_of registers name) x
symbol_in globals locals registers x (Number z) = if_reached x (Const (Int z))
symbol_in globals locals registers x NullOperand = if_reached x (Const Null)
symbol_in globals locals registers x (Address name offset) = if_reached x (address_symbol globals locals name offset)

-- the symbol of an operand at a point
abbrev pub found_symbol : List GlobalDef → List Decl → Found → Point → Operand → Option Symbol
found_symbol globals locals t at x = if at.function == t.function then symbol_in globals locals t.registers (found_row t at.block at.index) x else None

-- ---- what they are

-- what a statement changes where the symbols before it are these
abbrev pub change_at : Body → Lifted (List Symbol) → Stmt → Change
change_at B NotReached x = Ends
change_at B (Reached row) x = change_of B row x

-- what each statement changes, by the symbols before the first one
abbrev pub changes_of : Body → Lifted (List Symbol) → List Stmt → List Change
changes_of B x [] = []
changes_of B x (s ∷ ss) = change_at B x s ∷ changes_of B (changed_row x (change_at B x s)) ss

-- those of each block from a number on
abbrev pub block_changes : Body → List (Lifted (List Symbol)) → ℕ → List Block → List (List Change)
block_changes B begins k [] = []
block_changes B begins k (b ∷ bs) = changes_of B (value_or (slice_get begins k)) b.body ∷ block_changes B begins (k + 1) bs

-- the index of a statement of a block, or of its end
abbrev pub is_index : Option Block → ℕ → Bool
is_index None i = false
is_index (Some b) i = nat_le i (length b.body)

-- the symbols at a point of the body, by those at the begins of blocks; of no point there are none
abbrev pub point_row : Body → List Block → List (Lifted (List Symbol)) → ℕ → ℕ → Lifted (List Symbol)
point_row B blocks begins k i = if is_index (slice_get blocks k) i then point_value (symbol_steps B) blocks begins k i else NotReached

-- the least solution of the equations of a function
abbrev pub AreLeast : Body → List Block → List (Lifted (List Symbol)) → Type 0
AreLeast B blocks begins = AreBegins (FitsRows FitsSymbol) (rows_below symbol_below) (length B.registers ∷ []) (symbol_steps B) blocks begins

-- These are the symbols of a function of a program: those at the begins of blocks are the least solution of its equations,
-- and those at each point follow from them.
pub record AreSymbols (p : Sealed) (n : ℕ) (f : Function) (t : Found) : Type 0 where
  pub least : AreLeast (body_of p f) f.blocks t.begins
  pub points : (k i : ℕ) → found_row t k i ≡ point_row (body_of p f) f.blocks t.begins k i
  pub function : t.function ≡ n
  pub registers : t.registers ≡ f.params ++ f.registers

-- ---- looking a symbol up

abbrev pub is_reached : Lifted (List Symbol) → Bool
is_reached NotReached = false
is_reached (Reached row) = true

-- the symbol of the register of this number after a change, if there is one before it
abbrev pub symbol_after : ℕ → Option Symbol → Change → Option Symbol
symbol_after place None c = None
symbol_after place (Some a) Nothing = Some a
symbol_after place (Some a) (Sets other b) = if other == place then Some b else Some a
symbol_after place (Some a) Ends = None

-- and after all changes
abbrev pub symbol_through : ℕ → Option Symbol → List Change → Option Symbol
symbol_through place a [] = a
symbol_through place a (c ∷ cs) = symbol_through place (symbol_after place a c) cs

abbrev pub is_end : Change → Bool
is_end Nothing = false
is_end (Sets place a) = false
is_end Ends = true

-- after all changes
abbrev pub reached_through : Lifted (List Symbol) → List Change → Bool
reached_through NotReached cs = false
reached_through (Reached row) cs = not (list_any is_end cs)
