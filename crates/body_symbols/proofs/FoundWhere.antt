-- A symbol is found exactly at the points that are reached, under the names of registers.
use Rattle.std.proofs.Common.{◌≡◌, ℕ, zero, suc, ◌+◌, ◌<◌, ◌≤◌, ◌==◌, Bool, true, false, cond, not, ◌||◌, ◌&&◌, List, [], ◌∷◌, ◌++◌, take, length, Option, None, is_some, slice_get, refl, sym, ◌∙◌, ap, subst, arith}
use Rattle.std.specs.List.{list_any}
use Rattle.std.specs.Str.{bytes_eq}
use Rattle.gimple_ir.specs.declared.value.Constant.TheVariants.{Int, Null as NullConstant}
use Rattle.gimple_ir.specs.declared.operand.Operand.{Operand}
use Rattle.gimple_ir.specs.declared.operand.Operand.TheVariants.{Reg, Number, Null, Address}
use Rattle.gimple_ir.specs.declared.declarations.Decl.{Decl}
use Rattle.gimple_ir.specs.declared.declarations.Global.{Global}
use Rattle.gimple_ir.specs.declared.declarations.Register.{Register}
use Rattle.gimple_ir.specs.declared.block.Block.{Block}
use Rattle.gimple_ir.specs.declared.program.Function.{Function}
use Rattle.gimple_core.specs.Sealed.{Sealed}
use Rattle.fix_engine.specs.Lifted.{FitsLifted}
use Rattle.fix_engine.specs.Rows.{FitsRows, rows_below}
use Rattle.fix_engine.specs.declared.lifted.Lifted.{Lifted}
use Rattle.fix_engine.specs.declared.lifted.Lifted.TheVariants.{NotReached, Reached}
use Rattle.block_flow.specs.System.{body_at, value_or, point_value}
use Rattle.block_flow.proofs.Holding.{statements_fit}
use Rattle.block_flow.proofs.Solved.{value_fits}
use Rattle.body_symbols.specs.declared.symbol.Symbol.{Symbol}
use Rattle.body_symbols.specs.declared.symbol.Symbol.TheVariants.{Const}
use Rattle.body_symbols.specs.Order.{symbol_below, FitsSymbol}
use Rattle.body_symbols.specs.Bodies.{body_of, place_of, address_symbol, symbol_steps}
use Rattle.body_symbols.specs.BodiesLaws.{symbol_steps_laws}
use Rattle.body_symbols.specs.Found.{Found, found_row, register_symbol, if_reached, symbol_in, is_reached, is_index, AreSymbols}
use Rattle.body_symbols.specs.FoundWhere.{is_known, SymbolsFound}

within : (bs : List Block) (k i : ℕ) → is_index (slice_get bs k) i ≡ true → k < length bs
within [] k i h = cc
within (b ∷ bs) zero i h = omega arith
within (b ∷ bs) (suc k) i h = let rest = within bs k i h in omega (arith, rest)

cond_fits : (P : Lifted (List Symbol) → Type 0) (b : Bool) (x : Lifted (List Symbol)) → (b ≡ true → P x) → P NotReached → P (cond b x NotReached)
cond_fits P true x h g = h refl
cond_fits P false x h g = g

-- rows have one symbol a register
module _ (p : Sealed) (n : ℕ) (f : Function) (t : Found) (found : AreSymbols p n f t) where
  abbrev kind : List ℕ
  kind = length (f.params ++ f.registers) ∷ []

  abbrev IsRow : Lifted (List Symbol) → Type 0
  IsRow x = FitsLifted (FitsRows FitsSymbol) (length (f.params ++ f.registers) ∷ []) x

  values_fit : (k i : ℕ) → k < length f.blocks → IsRow (point_value (symbol_steps (body_of p f)) f.blocks t.begins k i)
  unfolding point_value
  values_fit k i l =
      statements_fit (FitsRows FitsSymbol) (rows_below symbol_below) (length (f.params ++ f.registers) ∷ []) (symbol_steps (body_of p f)) (symbol_steps_laws (body_of p f)) k 0 (take i (body_at (slice_get f.blocks k))) (value_or (slice_get t.begins k))
      (value_fits (FitsRows FitsSymbol) (rows_below symbol_below) (length (f.params ++ f.registers) ∷ []) (symbol_steps (body_of p f)) f.blocks t.begins found.least.solves k l)

  pub row_fits : (k i : ℕ) → IsRow (found_row t k i)
  row_fits k i = subst IsRow (sym (found.points k i)) (cond_fits IsRow (is_index (slice_get f.blocks k) i) (point_value (symbol_steps (body_of p f)) f.blocks t.begins k i) (λ h. values_fit k i (within f.blocks k i h)) tt)

-- ---- registers by name

abbrev named : List ℕ → List Register → Bool
named name rs = list_any (λ r. bytes_eq r.name name) rs

get_past : (row : List Symbol) (k : ℕ) → length row ≤ k → is_some (slice_get row k) ≡ false
get_past [] k l = refl
get_past (a ∷ row) zero l = absurd (omega (arith, l))
get_past (a ∷ row) (suc k) l = get_past row k (omega (arith, l))

get_some : (row : List Symbol) (k : ℕ) → k < length row → is_some (slice_get row k) ≡ true
get_some [] k l = absurd (omega (arith, l))
get_some (a ∷ row) zero l = refl
get_some (a ∷ row) (suc k) l = get_some row k (omega (arith, l))

named_place : (name : List ℕ) (rs : List Register) → named name rs ≡ true → place_of rs name < length rs
named_place name [] h = cc
named_place name (r ∷ rs) h = by (bytes_eq r.name name) h (λ k. named_place name rs k)
  where
    by : (b : Bool) → (b || named name rs) ≡ true → (named name rs ≡ true → place_of rs name < length rs) → cond (not b) (1 + place_of rs name) 0 < suc (length rs)
    by true h k = omega arith
    by false h k = let rest = k h in omega (arith, rest)

place_past : (name : List ℕ) (rs : List Register) → named name rs ≡ false → length rs ≤ place_of rs name
place_past name [] h = omega arith
place_past name (r ∷ rs) h = by (bytes_eq r.name name) h (λ k. place_past name rs k)
  where
    by : (b : Bool) → (b || named name rs) ≡ false → (named name rs ≡ false → length rs ≤ place_of rs name) → suc (length rs) ≤ cond (not b) (1 + place_of rs name) 0
    by true h k = cc
    by false h k = let rest = k h in omega (arith, rest)

name_by : (name : List ℕ) (rs : List Register) (row : List Symbol) (b : Bool) → named name rs ≡ b → length row ≡ length rs → is_some (slice_get row (place_of rs name)) ≡ b
name_by name rs row true e l = get_some row (place_of rs name) (let w = named_place name rs e in omega (arith, w, l))
name_by name rs row false e l = get_past row (place_of rs name) (let w = place_past name rs e in omega (arith, w, l))

-- ---- the law

register_is : (name : List ℕ) (rs : List Register) (m : ℕ) (x : Lifted (List Symbol)) → m ≡ length rs → FitsLifted (FitsRows FitsSymbol) (m ∷ []) x → is_some (register_symbol (place_of rs name) x) ≡ (is_reached x && named name rs)
register_is name rs m NotReached e f = refl
register_is name rs m (Reached row) e f = name_by name rs row (named name rs) refl (f.0 ∙ e)

reached_is : (x : Lifted (List Symbol)) (a : Symbol) → is_some (if_reached x a) ≡ (is_reached x && true)
reached_is NotReached a = refl
reached_is (Reached row) a = refl

operand_is : (globals : List Global) (locals : List Decl) (rs : List Register) (m : ℕ) (x : Lifted (List Symbol)) → m ≡ length rs → FitsLifted (FitsRows FitsSymbol) (m ∷ []) x → (o : Operand) → is_some (symbol_in globals locals rs x o) ≡ (is_reached x && is_known rs o)
unfolding symbol_in
operand_is globals locals rs m x e f (Reg name) = register_is name rs m x e f
operand_is globals locals rs m x e f (Number z) = reached_is x (Const (Int z))
operand_is globals locals rs m x e f Null = reached_is x (Const NullConstant)
operand_is globals locals rs m x e f (Address name offset) = reached_is x (address_symbol globals locals name offset)

chosen : (b : Bool) (o : Option Symbol) (c d : Bool) → is_some o ≡ (c && d) → is_some (cond b o None) ≡ ((b && c) && d)
chosen true o c d h = h
chosen false o c d h = refl

pub symbols_found : SymbolsFound
symbols_found p n f t found globals locals at x =
    chosen (at.function == t.function) (symbol_in globals locals t.registers (found_row t at.block at.index) x) (is_reached (found_row t at.block at.index)) (is_known t.registers x)
    (operand_is globals locals t.registers (length (f.params ++ f.registers)) (found_row t at.block at.index) (ap length (sym found.registers)) (row_fits p n f t found at.block at.index) x)
