-- Statements give symbols that rise with those before them.
use Rattle.std.specs.Prelude.{◌≡◌, ℕ, zero, suc, ◌+◌, ℤ, Bool, true, false, cond, List, [], ◌∷◌, length, Option, Some, None, slice_get, slice_set, refl}
use Rattle.std.proofs.Common.{arith, ap, sym, subst, ◌∙◌}
use Rattle.gimple_ir.specs.declared.scalar.Scalar.{Scalar}
use Rattle.gimple_ir.specs.declared.scalar.Scalar.TheVariants.{I8, I16, I32, I64, U8, U16, U32, U64, Ptr}
use Rattle.gimple_ir.specs.declared.scalar.Mode.{Mode}
use Rattle.gimple_ir.specs.declared.scalar.Op.{Op}
use Rattle.gimple_ir.specs.declared.scalar.Cmp.{Cmp}
use Rattle.gimple_ir.specs.declared.value.Value.TheVariants.{Null as NullValue}
use Rattle.gimple_ir.specs.declared.value.Constant.{Constant}
use Rattle.gimple_ir.specs.declared.value.Constant.TheVariants.{Int, Null, Global as GlobalAddress}
use Rattle.gimple_ir.specs.declared.operand.Operand.{Operand}
use Rattle.gimple_ir.specs.declared.operand.Operand.TheVariants.{Reg, Number, Null as NullOperand, Address}
use Rattle.gimple_ir.specs.declared.declarations.Register.{Register}
use Rattle.gimple_ir.specs.declared.statement.Stmt.{Stmt}
use Rattle.gimple_ir.specs.declared.statement.Stmt.TheVariants.{Copy, Arith, Compare, Convert, Load, Store, Call, Indirect, Get, Put, Abort}
use Rattle.gimple_core.specs.Memory.{moved_by}
use Rattle.gimple_core.specs.Run.{arith_of}
use Rattle.gimple_core.specs.Statements.{is_pointer}
use Rattle.fix_engine.specs.Bools.{and_left, and_right, both}
use Rattle.fix_engine.specs.Lifted.{FitsLifted, lifted_below}
use Rattle.fix_engine.specs.Rows.{Each, FitsRows, rows_below}
use Rattle.fix_engine.specs.declared.lifted.Lifted.{Lifted}
use Rattle.fix_engine.specs.declared.lifted.Lifted.TheVariants.{NotReached, Reached}
use Rattle.block_flow.specs.Steps.{StepsLaws}
use Rattle.body_symbols.specs.declared.symbol.Variable.{Variable}
use Rattle.body_symbols.specs.declared.symbol.Symbol.{Symbol}
use Rattle.body_symbols.specs.declared.symbol.Symbol.TheVariants.{Const, Formal, FormalOp, FormalAt, VariableAt, Unknown}
use Rattle.body_symbols.specs.declared.change.Change.{Change}
use Rattle.body_symbols.specs.declared.change.Change.TheVariants.{Nothing, Sets, Ends}
use Rattle.body_symbols.specs.Order.{symbol_below, FitsSymbol}
use Rattle.body_symbols.specs.OrderLaws.{symbol_self, below_unknown, rise_cases, symbol_transitive, same_base, same_variable_base}
use Rattle.body_symbols.specs.Bodies.{Body, place_of, address_symbol, symbol_or, operand_symbol, value_of_constant, evaluated, moved_offset, other_symbol, arith_symbol, compare_symbol, register_scalar, set_reached, change_of, changed, first_symbols, symbol_steps}

-- ---- symbols that may be not reached

abbrev Rises : Lifted Symbol → Lifted Symbol → Type 0
Rises x y = lifted_below symbol_below x y ≡ true

rises_self : (x : Lifted Symbol) → Rises x x
rises_self NotReached = refl
rises_self (Reached a) = symbol_self a

rises_equal : (x y : Lifted Symbol) → x ≡ y → Rises x y
rises_equal x y e = subst (Rises x) e (rises_self x)

rises_top : (x : Lifted Symbol) → Rises x (Reached Unknown)
rises_top NotReached = refl
rises_top (Reached a) = below_unknown a

rises_on : (x y z : Lifted Symbol) → Rises x y → Rises y z → Rises x z
rises_on NotReached y z p q = refl
rises_on (Reached a) NotReached z p q = cc
rises_on (Reached a) (Reached b) NotReached p q = cc
rises_on (Reached a) (Reached b) (Reached c) p q = symbol_transitive a b c p q

unknown_either : (b : Bool) → cond b Unknown Unknown ≡ Unknown
unknown_either true = refl
unknown_either false = refl

rises_either : (x : Lifted Symbol) (b : Bool) → Rises x (Reached (cond b Unknown Unknown))
rises_either x true = rises_top x
rises_either x false = rises_top x

-- ---- arithmetic

module _ (mode : Mode) (scalar : Scalar) (op : Op) where
  abbrev A : Symbol → Symbol → Lifted Symbol
  A l r = arith_symbol mode scalar l op r

  formal_moved : (i : ℕ) (o : Option ℤ) (b : Bool) → Rises (Reached (cond b (FormalAt i o) Unknown)) (Reached (cond b (FormalAt i None) Unknown))
  formal_moved i o true = same_base i o
  formal_moved i o false = refl

  variable_moved : (v : Variable) (o : Option ℤ) (b : Bool) → Rises (Reached (cond b (VariableAt v o) Unknown)) (Reached (cond b (VariableAt v None) Unknown))
  variable_moved v o true = same_variable_base v o
  variable_moved v o false = refl

  left_top : (l r : Symbol) → Rises (A l r) (A Unknown r)
  unfolding arith_symbol
  left_top l r = rises_either (A l r) (is_pointer scalar)

  left_formal : (i : ℕ) (z : ℤ) (r : Symbol) → Rises (A (FormalAt i (Some z)) r) (A (FormalAt i None) r)
  unfolding arith_symbol
  left_formal i z r = formal_moved i (moved_offset (Some z) r) (is_pointer scalar)

  left_variable : (v : Variable) (z : ℤ) (r : Symbol) → Rises (A (VariableAt v (Some z)) r) (A (VariableAt v None) r)
  unfolding arith_symbol
  left_variable v z r = variable_moved v (moved_offset (Some z) r) (is_pointer scalar)

  arith_left : (r l m : Symbol) → symbol_below l m ≡ true → Rises (A l r) (A m r)
  arith_left r l m e = rise_cases (λ l m. Rises (A l r) (A m r)) (λ l. rises_self (A l r)) (λ l. left_top l r) (λ i z. left_formal i z r) (λ v z. left_variable v z r) l m e

  null_stays : (s : Scalar) (d : Constant) → Rises (evaluated (arith_of mode s NullValue op (value_of_constant d))) (Reached (cond (is_pointer s) (Const Null) Unknown))
  unfolding arith_of moved_by
  null_stays I8 d = rises_top _
  null_stays I16 d = rises_top _
  null_stays I32 d = rises_top _
  null_stays I64 d = rises_top _
  null_stays U8 d = rises_top _
  null_stays U16 d = rises_top _
  null_stays U32 d = rises_top _
  null_stays U64 d = rises_top _
  null_stays Ptr d = refl

  const_const : (c d : Constant) → Rises (A (Const c) (Const d)) (A (Const c) Unknown)
  unfolding arith_symbol
  const_const (Int z) d = rises_either (A (Const (Int z)) (Const d)) (is_pointer scalar)
  const_const Null d = null_stays scalar d
  const_const (GlobalAddress k o) d = rises_either (A (Const (GlobalAddress k o)) (Const d)) (is_pointer scalar)

  const_other : (c : Constant) (r s : Symbol) → other_symbol scalar (Const c) op r ≡ other_symbol scalar (Const c) op s
  const_other (Int z) r s = refl
  const_other Null r s = refl
  const_other (GlobalAddress k o) r s = refl

  -- what is no constant at the right counts as unknown
  right_formal : (l : Symbol) (i : ℕ) (o : Option ℤ) → A l (FormalAt i o) ≡ A l Unknown
  unfolding arith_symbol
  right_formal (Const c) i o = ap (λ x. Reached x) (const_other c (FormalAt i o) Unknown)
  right_formal (Formal j) i o = refl
  right_formal (FormalOp j other w) i o = refl
  right_formal (FormalAt j None) i o = refl
  right_formal (FormalAt j (Some w)) i o = refl
  right_formal (VariableAt u None) i o = refl
  right_formal (VariableAt u (Some w)) i o = refl
  right_formal Unknown i o = refl

  right_variable : (l : Symbol) (v : Variable) (o : Option ℤ) → A l (VariableAt v o) ≡ A l Unknown
  unfolding arith_symbol
  right_variable (Const c) v o = ap (λ x. Reached x) (const_other c (VariableAt v o) Unknown)
  right_variable (Formal j) v o = refl
  right_variable (FormalOp j other w) v o = refl
  right_variable (FormalAt j None) v o = refl
  right_variable (FormalAt j (Some w)) v o = refl
  right_variable (VariableAt u None) v o = refl
  right_variable (VariableAt u (Some w)) v o = refl
  right_variable Unknown v o = refl

  right_const : (l : Symbol) (d : Constant) → Rises (A l (Const d)) (A l Unknown)
  unfolding arith_symbol
  right_const (Const c) d = const_const c d
  right_const (Formal j) d = rises_either (A (Formal j) (Const d)) (is_pointer scalar)
  right_const (FormalOp j other w) d = rises_either (A (FormalOp j other w) (Const d)) (is_pointer scalar)
  right_const (FormalAt j None) d = rises_self (A (FormalAt j None) Unknown)
  right_const (FormalAt j (Some w)) d = formal_moved j (moved_offset (Some w) (Const d)) (is_pointer scalar)
  right_const (VariableAt u None) d = rises_self (A (VariableAt u None) Unknown)
  right_const (VariableAt u (Some w)) d = variable_moved u (moved_offset (Some w) (Const d)) (is_pointer scalar)
  right_const Unknown d = rises_self (A Unknown Unknown)

  right_plain : (l : Symbol) (i : ℕ) → A l (Formal i) ≡ A l Unknown
  unfolding arith_symbol
  right_plain (Const c) i = ap (λ x. Reached x) (const_other c (Formal i) Unknown)
  right_plain (Formal j) i = refl
  right_plain (FormalOp j other w) i = refl
  right_plain (FormalAt j None) i = refl
  right_plain (FormalAt j (Some w)) i = refl
  right_plain (VariableAt u None) i = refl
  right_plain (VariableAt u (Some w)) i = refl
  right_plain Unknown i = refl

  right_op : (l : Symbol) (i : ℕ) (o : Op) (z : ℤ) → A l (FormalOp i o z) ≡ A l Unknown
  unfolding arith_symbol
  right_op (Const c) i o z = ap (λ x. Reached x) (const_other c (FormalOp i o z) Unknown)
  right_op (Formal j) i o z = refl
  right_op (FormalOp j other w) i o z = refl
  right_op (FormalAt j None) i o z = refl
  right_op (FormalAt j (Some w)) i o z = refl
  right_op (VariableAt u None) i o z = refl
  right_op (VariableAt u (Some w)) i o z = refl
  right_op Unknown i o z = refl

  right_top : (l r : Symbol) → Rises (A l r) (A l Unknown)
  right_top l (Const d) = right_const l d
  right_top l (Formal i) = rises_equal _ _ (right_plain l i)
  right_top l (FormalOp i o z) = rises_equal _ _ (right_op l i o z)
  right_top l (FormalAt i o) = rises_equal _ _ (right_formal l i o)
  right_top l (VariableAt v o) = rises_equal _ _ (right_variable l v o)
  right_top l Unknown = rises_self (A l Unknown)

  arith_right : (l r s : Symbol) → symbol_below r s ≡ true → Rises (A l r) (A l s)
  arith_right l r s e =
      rise_cases (λ r s. Rises (A l r) (A l s)) (λ r. rises_self (A l r)) (λ r. right_top l r) (λ i z. rises_equal _ _ (right_formal l i (Some z) ∙ sym (right_formal l i None)))
      (λ v z. rises_equal _ _ (right_variable l v (Some z) ∙ sym (right_variable l v None))) r s e

  pub arith_rises : (l m r s : Symbol) → symbol_below l m ≡ true → symbol_below r s ≡ true → Rises (A l r) (A m s)
  arith_rises l m r s p q = rises_on (A l r) (A m r) (A m s) (arith_left r l m p) (arith_right m r s q)

-- ---- comparisons

compare_left : (cmp : Cmp) (r l m : Symbol) → symbol_below l m ≡ true → symbol_below (compare_symbol l cmp r) (compare_symbol m cmp r) ≡ true
unfolding compare_symbol
compare_left cmp r l m e =
    rise_cases (λ l m. symbol_below (compare_symbol l cmp r) (compare_symbol m cmp r) ≡ true) (λ l. symbol_self (compare_symbol l cmp r)) (λ l. below_unknown (compare_symbol l cmp r)) (λ i z. refl) (λ v z. refl) l m e

compare_none : (l : Symbol) (cmp : Cmp) → compare_symbol l cmp Unknown ≡ Unknown
unfolding compare_symbol
compare_none (Const c) cmp = refl
compare_none (Formal i) cmp = refl
compare_none (FormalOp i op z) cmp = refl
compare_none (FormalAt i o) cmp = refl
compare_none (VariableAt v o) cmp = refl
compare_none Unknown cmp = refl

compare_formal : (l : Symbol) (cmp : Cmp) (i : ℕ) (o : Option ℤ) → compare_symbol l cmp (FormalAt i o) ≡ Unknown
unfolding compare_symbol
compare_formal (Const c) cmp i o = refl
compare_formal (Formal j) cmp i o = refl
compare_formal (FormalOp j op z) cmp i o = refl
compare_formal (FormalAt j p) cmp i o = refl
compare_formal (VariableAt v p) cmp i o = refl
compare_formal Unknown cmp i o = refl

compare_variable : (l : Symbol) (cmp : Cmp) (v : Variable) (o : Option ℤ) → compare_symbol l cmp (VariableAt v o) ≡ Unknown
unfolding compare_symbol
compare_variable (Const c) cmp v o = refl
compare_variable (Formal j) cmp v o = refl
compare_variable (FormalOp j op z) cmp v o = refl
compare_variable (FormalAt j p) cmp v o = refl
compare_variable (VariableAt u p) cmp v o = refl
compare_variable Unknown cmp v o = refl

below_by : (a b : Symbol) → b ≡ Unknown → symbol_below a b ≡ true
below_by a b e = subst (λ x. symbol_below a x ≡ true) (sym e) (below_unknown a)

compare_right : (cmp : Cmp) (l r s : Symbol) → symbol_below r s ≡ true → symbol_below (compare_symbol l cmp r) (compare_symbol l cmp s) ≡ true
compare_right cmp l r s e =
    rise_cases (λ r s. symbol_below (compare_symbol l cmp r) (compare_symbol l cmp s) ≡ true) (λ r. symbol_self (compare_symbol l cmp r)) (λ r. below_by (compare_symbol l cmp r) _ (compare_none l cmp))
    (λ i z. below_by (compare_symbol l cmp (FormalAt i (Some z))) _ (compare_formal l cmp i None)) (λ v z. below_by (compare_symbol l cmp (VariableAt v (Some z))) _ (compare_variable l cmp v None)) r s e

compare_rises : (cmp : Cmp) (l m r s : Symbol) → symbol_below l m ≡ true → symbol_below r s ≡ true → symbol_below (compare_symbol l cmp r) (compare_symbol m cmp s) ≡ true
compare_rises cmp l m r s p q = symbol_transitive (compare_symbol l cmp r) (compare_symbol m cmp r) (compare_symbol m cmp s) (compare_left cmp r l m p) (compare_right cmp m r s q)

-- ---- rows

abbrev RowsRise : List Symbol → List Symbol → Type 0
RowsRise a b = rows_below symbol_below a b ≡ true

get_rises : (a b : List Symbol) (n : ℕ) → length a ≡ length b → RowsRise a b → symbol_below (symbol_or (slice_get a n)) (symbol_or (slice_get b n)) ≡ true
get_rises [] [] n l e = refl
get_rises [] (y ∷ b) n l e = absurd (omega (arith, l))
get_rises (x ∷ a) [] n l e = absurd (omega (arith, l))
get_rises (x ∷ a) (y ∷ b) zero l e = and_left (symbol_below x y) (rows_below symbol_below a b) e
get_rises (x ∷ a) (y ∷ b) (suc n) l e = get_rises a b n (omega (arith, l)) (and_right (symbol_below x y) (rows_below symbol_below a b) e)

set_rises : (a b : List Symbol) (n : ℕ) (s t : Symbol) → RowsRise a b → symbol_below s t ≡ true → RowsRise (slice_set a n s) (slice_set b n t)
set_rises [] b n s t e q = refl
set_rises (x ∷ a) [] n s t e q = cc
set_rises (x ∷ a) (y ∷ b) zero s t e q = both (symbol_below s t) (rows_below symbol_below a b) q (and_right (symbol_below x y) (rows_below symbol_below a b) e)
set_rises (x ∷ a) (y ∷ b) (suc n) s t e q =
    both (symbol_below x y) (rows_below symbol_below (slice_set a n s) (slice_set b n t)) (and_left (symbol_below x y) (rows_below symbol_below a b) e) (set_rises a b n s t (and_right (symbol_below x y) (rows_below symbol_below a b) e) q)

rows_self : (a : List Symbol) → RowsRise a a
rows_self [] = refl
rows_self (x ∷ a) = both (symbol_below x x) (rows_below symbol_below a a) (symbol_self x) (rows_self a)

set_count : (a : List Symbol) (n : ℕ) (s : Symbol) → length (slice_set a n s) ≡ length a
set_count [] n s = refl
set_count (x ∷ a) zero s = refl
set_count (x ∷ a) (suc n) s = ap suc (set_count a n s)

-- ---- changes

abbrev ChangeRises : Change → Change → Type 0
ChangeRises Ends d = Unit {0}
ChangeRises Nothing Nothing = Unit {0}
ChangeRises (Sets p s) (Sets q t) = (p ≡ q) × (symbol_below s t ≡ true)
ChangeRises c d = ⊥

changed_rises : (a b : List Symbol) (c d : Change) → RowsRise a b → ChangeRises c d → lifted_below (rows_below symbol_below) (changed a c) (changed b d) ≡ true
changed_rises a b Ends d e h = refl
changed_rises a b Nothing Nothing e h = e
changed_rises a b Nothing (Sets q t) e h = absurd h
changed_rises a b Nothing Ends e h = absurd h
changed_rises a b (Sets p s) Nothing e h = absurd h
changed_rises a b (Sets p s) (Sets q t) e h = subst (λ n. RowsRise (slice_set a p s) (slice_set b n t)) h.0 (set_rises a b p s t e h.1)
changed_rises a b (Sets p s) Ends e h = absurd h

reached_rises : (B : Body) (to : List ℕ) (x y : Lifted Symbol) → Rises x y → ChangeRises (set_reached B to x) (set_reached B to y)
reached_rises B to NotReached y e = tt
reached_rises B to (Reached s) NotReached e = cc
reached_rises B to (Reached s) (Reached t) e = (refl, e)

module _ (B : Body) (a b : List Symbol) (l : length a ≡ length b) (e : RowsRise a b) where
  operand_rises : (x : Operand) → symbol_below (operand_symbol B a x) (operand_symbol B b x) ≡ true
  unfolding operand_symbol
  operand_rises (Reg name) = get_rises a b (place_of B.registers name) l e
  operand_rises (Number z) = symbol_self (Const (Int z))
  operand_rises NullOperand = refl
  operand_rises (Address name offset) = symbol_self (address_symbol B.globals B.locals name offset)

  change_rises : (x : Stmt) → ChangeRises (change_of B a x) (change_of B b x)
  unfolding change_of
  change_rises (Copy to from) = (refl, operand_rises from)
  change_rises (Arith to left op right) =
      reached_rises B to _ _ (arith_rises B.mode (register_scalar B.registers to) op (operand_symbol B a left) (operand_symbol B b left) (operand_symbol B a right) (operand_symbol B b right) (operand_rises left) (operand_rises right))
  change_rises (Compare to left cmp right) = (refl, compare_rises cmp (operand_symbol B a left) (operand_symbol B b left) (operand_symbol B a right) (operand_symbol B b right) (operand_rises left) (operand_rises right))
  change_rises (Convert to scalar from) = (refl, refl)
  change_rises (Load to scalar place) = (refl, refl)
  change_rises (Store scalar place from) = tt
  change_rises (Call None callee arguments) = tt
  change_rises (Call (Some to) callee arguments) = (refl, refl)
  change_rises (Indirect None signature callee arguments) = tt
  change_rises (Indirect (Some to) signature callee arguments) = (refl, refl)
  change_rises (Get to) = (refl, refl)
  change_rises (Put from) = tt
  change_rises Abort = tt

-- ---- the laws

each_symbol : (row : List Symbol) → Each (FitsSymbol []) row
each_symbol [] = tt
each_symbol (a ∷ row) = (tt, each_symbol row)

pub row_fits : (n : ℕ) (row : List Symbol) → length row ≡ n → FitsRows FitsSymbol (n ∷ []) row
row_fits n row e = (e, each_symbol row)

first_count : (formals k : ℕ) (rs : List Register) → length (first_symbols formals k rs) ≡ length rs
first_count formals k [] = refl
first_count formals k (r ∷ rs) = ap suc (first_count formals (k + 1) rs)

changed_fits : (n : ℕ) (row : List Symbol) (c : Change) → FitsRows FitsSymbol (n ∷ []) row → FitsLifted (FitsRows FitsSymbol) (n ∷ []) (changed row c)
changed_fits n row Nothing f = f
changed_fits n row (Sets place a) f = row_fits n (slice_set row place a) (set_count row place a ∙ f.0)
changed_fits n row Ends f = tt

pub symbol_steps_laws : (B : Body) → StepsLaws (FitsRows FitsSymbol) (rows_below symbol_below) (length B.registers ∷ []) (symbol_steps B)
symbol_steps_laws B = record {
  begin_fits = row_fits (length B.registers) _ (first_count B.formals 0 B.registers);
  statement_fits = λ k i x a f. changed_fits (length B.registers) a (change_of B a x) f;
  statement_rises = λ k i x a b f g e. changed_rises a b (change_of B a x) (change_of B b x) e (change_rises B a b (f.0 ∙ sym g.0) e x);
  branch_fits = λ k e slot a f. f;
  branch_rises = λ k e slot a b f g r. r;
}
