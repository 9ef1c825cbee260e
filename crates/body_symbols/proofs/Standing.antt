-- What registers hold, and what their symbols say of it.
use Rattle.std.proofs.Common.{◌≡◌, ℕ, zero, suc, ◌<◌, ◌≤◌, nat_lt, ℤ, pos, ◌+ℤ◌, Bool, true, false, cond, if◌then◌else◌, List, [], ◌∷◌, length, refl, sym, ◌∙◌, ap, subst, arith, Option, Some, None, Result, Ok, slice_get, slice_set, unwrap_or}
use Rattle.std.specs.List.{position}
use Rattle.std.specs.Str.{bytes_eq}
use Rattle.std.proofs.lemmas.Bool.{ltb-false}
use Rattle.std.proofs.lemmas.Int.{ints}
use Rattle.gimple_ir.specs.declared.scalar.Scalar.{Scalar}
use Rattle.gimple_ir.specs.declared.scalar.Scalar.TheVariants.{I8, I16, I32, I64, U8, U16, U32, U64, Ptr}
use Rattle.gimple_ir.specs.declared.scalar.Mode.{Mode}
use Rattle.gimple_ir.specs.declared.scalar.Op.{Op}
use Rattle.gimple_ir.specs.declared.scalar.Cmp.{Cmp}
use Rattle.gimple_ir.specs.declared.value.TrapKind.{TrapKind}
use Rattle.gimple_ir.specs.declared.value.Value.{Value}
use Rattle.gimple_ir.specs.declared.value.Value.TheVariants.{Int as IntValue, Null as NullValue, At, Code}
use Rattle.gimple_ir.specs.declared.value.Object.{Object}
use Rattle.gimple_ir.specs.declared.value.Object.TheVariants.{Global as GlobalObject, Local as LocalObject}
use Rattle.gimple_ir.specs.declared.value.Constant.{Constant}
use Rattle.gimple_ir.specs.declared.value.Constant.TheVariants.{Int, Null, Global as GlobalAddress}
use Rattle.gimple_ir.specs.declared.operand.Operand.{Operand}
use Rattle.gimple_ir.specs.declared.operand.Operand.TheVariants.{Reg, Number, Null as NullOperand, Address}
use Rattle.gimple_ir.specs.declared.declarations.Register.{Register}
use Rattle.gimple_ir.specs.declared.declarations.Decl.{Decl}
use Rattle.gimple_ir.specs.declared.declarations.Global.{Global as GlobalDef}
use Rattle.gimple_ir.specs.declared.program.Function.{Function}
use Rattle.gimple_core.specs.Operators.{in_scalar, wrapped}
use Rattle.gimple_core.specs.Memory.{moved_by}
use Rattle.gimple_core.specs.State.{Scope, register_place, value_at, value_in, put_at, number_in, offset_in}
use Rattle.gimple_core.specs.Run.{any_number, arith_of, compares, one_if, value_of, address_of, address_of_global, local_address, global_address}
use Rattle.gimple_core.specs.Statements.{is_pointer}
use Rattle.gimple_core.proofs.RangeLemmas.{wrapped_in}
use Rattle.fix_engine.specs.Bools.{and_left, and_right}
use Rattle.fix_engine.specs.Rows.{rows_below}
use Rattle.block_flow.specs.Runs.{ReachedWith}
use Rattle.body_symbols.specs.declared.symbol.Symbol.{Symbol}
use Rattle.body_symbols.specs.declared.symbol.Symbol.TheVariants.{Const, Formal, FormalOp, FormalAt, VariableAt, Unknown}
use Rattle.body_symbols.specs.Order.{symbol_below}
use Rattle.body_symbols.specs.OrderLaws.{rise_cases}
use Rattle.body_symbols.specs.Bodies.{Body, place_of, symbol_or, global_symbol, local_symbol, address_symbol, operand_symbol, value_of_constant, symbol_of_value, evaluated, moved_offset, moved_symbol, operated_symbol, other_symbol, arith_symbol, compare_symbol}
use Rattle.body_symbols.specs.Claims.{formal_scalar, argument_of, object_of, IsFrom, StandsFrom, StandsAt, Stands}
use Rattle.body_symbols.proofs.Offsets.{wrapped_still, moved_twice}

-- ---- offsets

pub zero_inside : in_scalar I64 (pos 0) ≡ true
zero_inside = refl

offset_by : (z : ℤ) (b : Bool) → in_scalar I64 z ≡ b → in_scalar I64 (if b then z else pos 0) ≡ true
offset_by z true e = e
offset_by z false e = zero_inside

offset_inside : (z : ℤ) → in_scalar I64 (offset_in z) ≡ true
unfolding number_in
offset_inside z = offset_by z (in_scalar I64 z) refl

-- from the begin of an object
from_begin : (z : ℤ) → wrapped I64 (pos 0 +ℤ offset_in z) ≡ offset_in z
from_begin z =
    let zero : (pos 0 +ℤ offset_in z) ≡ offset_in z = omega (arith, ints) in
    ap (wrapped I64) zero ∙ wrapped_still (offset_in z) (offset_inside z)

pointed : (object : Object) (z : ℤ) → moved_by (At object (pos 0)) (offset_in z) ≡ At object (offset_in z)
unfolding moved_by
pointed object z = ap (λ n. At object n) (from_begin z)

-- ---- values of constants

value_back : (mode : Mode) (f : Function) (arguments : List Value) (serial : ℕ) (v : Value) → Stands mode f arguments serial (symbol_of_value v) v
value_back mode f arguments serial (IntValue z) = refl
value_back mode f arguments serial NullValue = refl
value_back mode f arguments serial (At (GlobalObject k) o) = refl
value_back mode f arguments serial (At (LocalObject s k) o) = tt
value_back mode f arguments serial (Code name) = tt

-- ---- moves

from_self : (a : Value) → IsFrom a a
from_self (IntValue z) = refl
from_self NullValue = refl
from_self (At object o) = (o, refl)
from_self (Code name) = refl

from_moved : (a v : Value) (b : ℤ) → IsFrom a v → IsFrom a (moved_by v b)
unfolding moved_by
from_moved (IntValue z) v b h = ap (λ u. moved_by u b) h
from_moved NullValue v b h = ap (λ u. moved_by u b) h
from_moved (At object o) v b h = (wrapped I64 (h.0 +ℤ b), ap (λ u. moved_by u b) h.1)
from_moved (Code name) v b h = ap (λ u. moved_by u b) h

from_known : (a v : Value) (o : ℤ) → v ≡ moved_by a o → IsFrom a v
from_known a v o e = subst (IsFrom a) (sym e) (from_moved a a o (from_self a))

from_any : (a v : Value) (o : Option ℤ) → StandsFrom a o v → IsFrom a v
from_any a v None h = h
from_any a v (Some o) h = from_known a v o h

twice : (a : Value) (o b : ℤ) → moved_by (moved_by a o) b ≡ moved_by a (wrapped I64 (o +ℤ b))
unfolding moved_by
twice (IntValue z) o b = refl
twice NullValue o b = refl
twice (At object x) o b = ap (λ n. At object n) (moved_twice x o b)
twice (Code name) o b = refl

at_moved : (object : Object) (v : Value) (b : ℤ) → StandsAt object None v → StandsAt object None (moved_by v b)
unfolding moved_by
at_moved object v b h = (wrapped I64 (h.0 +ℤ b), ap (λ u. moved_by u b) h.1)

at_any : (object : Object) (v : Value) (o : Option ℤ) → StandsAt object o v → StandsAt object None v
at_any object v None h = h
at_any object v (Some o) h = (o, h)

at_known : (object : Object) (v : Value) (o b : ℤ) → v ≡ At object o → moved_by v b ≡ At object (wrapped I64 (o +ℤ b))
unfolding moved_by
at_known object v o b e = ap (λ u. moved_by u b) e

pub is_ptr : (scalar : Scalar) → is_pointer scalar ≡ true → scalar ≡ Ptr
is_ptr I8 e = cc
is_ptr I16 e = cc
is_ptr I32 e = cc
is_ptr I64 e = cc
is_ptr U8 e = cc
is_ptr U16 e = cc
is_ptr U32 e = cc
is_ptr U64 e = cc
is_ptr Ptr e = refl

-- an offset that is known is an i64
abbrev pub IsOffset : Option ℤ → Type 0
IsOffset None = Unit {0}
IsOffset (Some o) = in_scalar I64 o ≡ true

moved_inside : (o : Option ℤ) (r : Symbol) → IsOffset (moved_offset o r)
moved_inside None r = tt
moved_inside (Some o) (Const d) = wrapped_in I64 _
moved_inside (Some o) (Formal j) = tt
moved_inside (Some o) (FormalOp j op z) = tt
moved_inside (Some o) (FormalAt j p) = tt
moved_inside (Some o) (VariableAt x p) = tt
moved_inside (Some o) Unknown = tt

module _ (mode : Mode) (f : Function) (arguments : List Value) (serial : ℕ) where
  abbrev Is : Symbol → Value → Type 0
  Is a v = Stands mode f arguments serial a v

  -- a formal of the function, of this scalar
  pub record IsFormal (scalar : Scalar) (i : ℕ) : Type 0 where
    pub within : i < length f.params
    pub scalar_is : formal_scalar f i ≡ scalar

  -- a symbol of a register that speaks of an argument speaks of one of a formal of the register's scalar
  abbrev pub KeepsScalar : Scalar → Symbol → Type 0
  KeepsScalar scalar (Formal i) = IsFormal scalar i
  KeepsScalar scalar (FormalOp i op z) = IsFormal scalar i
  KeepsScalar scalar (FormalAt i o) = IsFormal scalar i × IsOffset o
  KeepsScalar scalar a = Unit {0}

  pub record Fits (scalar : Scalar) (a : Symbol) (v : Value) : Type 0 where
    pub stands : Stands mode f arguments serial a v
    pub keeps : KeepsScalar scalar a

  pub any_fits : (scalar : Scalar) (v : Value) → Fits scalar Unknown v
  any_fits scalar v = record { stands = tt; keeps = tt }

  pub fits_above : (scalar : Scalar) (v : Value) (a b : Symbol) → symbol_below a b ≡ true → Fits scalar a v → Fits scalar b v
  fits_above scalar v a b e h =
      rise_cases (λ a b. Fits scalar a v → Fits scalar b v) (λ a h. h) (λ a h. any_fits scalar v) (λ i z h. record { stands = from_known (argument_of f arguments i) v z h.stands; keeps = (h.keeps.0, tt) }) (λ x z h. record { stands = (z, h.stands); keeps = tt }) a b e h

  -- ---- rows

  abbrev pub RowStands : List Register → List Symbol → List Value → Type 0
  RowStands [] [] [] = Unit {0}
  RowStands [] [] (v ∷ vs) = ⊥
  RowStands [] (a ∷ row) vs = ⊥
  RowStands (r ∷ rs) [] vs = ⊥
  RowStands (r ∷ rs) (a ∷ row) [] = ⊥
  RowStands (r ∷ rs) (a ∷ row) (v ∷ vs) = Fits r.scalar a v × RowStands rs row vs

  pub row_above : (rs : List Register) (row other : List Symbol) (vs : List Value) → length row ≡ length other → rows_below symbol_below row other ≡ true → RowStands rs row vs → RowStands rs other vs
  row_above [] [] [] [] l e h = tt
  row_above [] [] [] (v ∷ vs) l e h = absurd h
  row_above [] [] (b ∷ other) vs l e h = absurd (omega (arith, l))
  row_above [] (a ∷ row) other vs l e h = absurd h
  row_above (r ∷ rs) [] other vs l e h = absurd h
  row_above (r ∷ rs) (a ∷ row) other [] l e h = absurd h
  row_above (r ∷ rs) (a ∷ row) [] (v ∷ vs) l e h = absurd (omega (arith, l))
  row_above (r ∷ rs) (a ∷ row) (b ∷ other) (v ∷ vs) l e h = (
    fits_above r.scalar v a b (and_left (symbol_below a b) (rows_below symbol_below row other) e) h.0,
    row_above rs row other vs (omega (arith, l)) (and_right (symbol_below a b) (rows_below symbol_below row other) e) h.1,
  )

  -- what a row says of a register by its number, if there is one
  fits_at : (rs : List Register) (row : List Symbol) (vs : List Value) (k : ℕ) (r : Register) → slice_get rs k ≡ Some r → RowStands rs row vs → Fits r.scalar (symbol_or (slice_get row k)) (unwrap_or (slice_get vs k) NullValue)
  fits_at [] row vs k r e h = cc
  fits_at (x ∷ rs) [] vs k r e h = absurd h
  fits_at (x ∷ rs) (a ∷ row) [] k r e h = absurd h
  fits_at (x ∷ rs) (a ∷ row) (v ∷ vs) zero r e h = let same : x ≡ r = cc in subst (λ (y : Register). Fits y.scalar a v) same h.0
  fits_at (x ∷ rs) (a ∷ row) (v ∷ vs) (suc k) r e h = fits_at rs row vs k r e h.1

  pub stands_at : (rs : List Register) (row : List Symbol) (vs : List Value) (k : ℕ) → RowStands rs row vs → Is (symbol_or (slice_get row k)) (unwrap_or (slice_get vs k) NullValue)
  stands_at [] [] vs k h = tt
  stands_at [] (a ∷ row) vs k h = absurd h
  stands_at (x ∷ rs) [] vs k h = absurd h
  stands_at (x ∷ rs) (a ∷ row) [] k h = absurd h
  stands_at (x ∷ rs) (a ∷ row) (v ∷ vs) zero h = h.0.stands
  stands_at (x ∷ rs) (a ∷ row) (v ∷ vs) (suc k) h = stands_at rs row vs k h.1

  set_at : (rs : List Register) (row : List Symbol) (vs : List Value) (k : ℕ) (a : Symbol) (v : Value) → RowStands rs row vs → ((r : Register) → slice_get rs k ≡ Some r → Fits r.scalar a v) → RowStands rs (slice_set row k a) (slice_set vs k v)
  set_at [] [] [] k a v h g = tt
  set_at [] [] (w ∷ vs) k a v h g = absurd h
  set_at [] (b ∷ row) vs k a v h g = absurd h
  set_at (x ∷ rs) [] vs k a v h g = absurd h
  set_at (x ∷ rs) (b ∷ row) [] k a v h g = absurd h
  set_at (x ∷ rs) (b ∷ row) (w ∷ vs) zero a v h g = (g x refl, h.1)
  set_at (x ∷ rs) (b ∷ row) (w ∷ vs) (suc k) a v h g = (h.0, set_at rs row vs k a v h.1 g)

  set_past : (rs : List Register) (row : List Symbol) (vs : List Value) (k : ℕ) (a : Symbol) → length rs ≤ k → RowStands rs row vs → RowStands rs (slice_set row k a) vs
  set_past [] [] vs k a l h = h
  set_past [] (b ∷ row) vs k a l h = absurd h
  set_past (x ∷ rs) [] vs k a l h = absurd h
  set_past (x ∷ rs) (b ∷ row) [] k a l h = absurd h
  set_past (x ∷ rs) (b ∷ row) (w ∷ vs) zero a l h = absurd (omega (arith, l))
  set_past (x ∷ rs) (b ∷ row) (w ∷ vs) (suc k) a l h = (h.0, set_past rs row vs k a (omega (arith, l)) h.1)

  pub forget : (rs : List Register) (row : List Symbol) (vs : List Value) (k : ℕ) → RowStands rs row vs → RowStands rs (slice_set row k Unknown) vs
  forget [] [] vs k h = h
  forget [] (b ∷ row) vs k h = absurd h
  forget (x ∷ rs) [] vs k h = absurd h
  forget (x ∷ rs) (b ∷ row) [] k h = absurd h
  forget (x ∷ rs) (b ∷ row) (w ∷ vs) zero h = (any_fits x.scalar w, h.1)
  forget (x ∷ rs) (b ∷ row) (w ∷ vs) (suc k) h = (h.0, forget rs row vs k h.1)

  count_past : (rs : List Register) (row : List Symbol) (vs : List Value) (k : ℕ) → length rs ≤ k → RowStands rs row vs → symbol_or (slice_get row k) ≡ Unknown
  count_past [] [] vs k l h = refl
  count_past [] (b ∷ row) vs k l h = absurd h
  count_past (x ∷ rs) [] vs k l h = absurd h
  count_past (x ∷ rs) (b ∷ row) [] k l h = absurd h
  count_past (x ∷ rs) (b ∷ row) (w ∷ vs) zero l h = absurd (omega (arith, l))
  count_past (x ∷ rs) (b ∷ row) (w ∷ vs) (suc k) l h = count_past rs row vs k (omega (arith, l)) h.1

  -- ---- registers by their names

  placed_by : (rs : List Register) (row : List Symbol) (vs : List Value) (n : ℕ) (b : Bool) → nat_lt n (length rs) ≡ b → RowStands rs row vs → Is (symbol_or (slice_get row n)) (value_at vs (cond b (Some n) None))
  placed_by rs row vs n true e h = stands_at rs row vs n h
  placed_by rs row vs n false e h = subst (λ a. Is a NullValue) (sym (count_past rs row vs n (ltb-false n (length rs) e) h)) tt

  pub register_stands : (scope : Scope) (row : List Symbol) (vs : List Value) (name : List ℕ) → RowStands scope.declared row vs → Is (symbol_or (slice_get row (place_of scope.declared name))) (value_in scope vs name)
  unfolding value_in register_place
  register_stands scope row vs name h = placed_by scope.declared row vs (place_of scope.declared name) (nat_lt (place_of scope.declared name) (length scope.declared)) refl h

  put_by : (rs : List Register) (row : List Symbol) (vs : List Value) (n : ℕ) (a : Symbol) (v : Value) (b : Bool) → nat_lt n (length rs) ≡ b → RowStands rs row vs → ((r : Register) → slice_get rs n ≡ Some r → Fits r.scalar a v) → RowStands rs (slice_set row n a) (put_at vs (cond b (Some n) None) v)
  put_by rs row vs n a v true e h g = set_at rs row vs n a v h g
  put_by rs row vs n a v false e h g = set_past rs row vs n a (ltb-false n (length rs) e) h

  -- an assignment
  pub put_stands : (rs : List Register) (row : List Symbol) (vs : List Value) (name : List ℕ) (a : Symbol) (v : Value) → RowStands rs row vs → ((r : Register) → slice_get rs (place_of rs name) ≡ Some r → Fits r.scalar a v) →
      RowStands rs (slice_set row (place_of rs name) a) (put_at vs (register_place rs name) v)
  unfolding register_place
  put_stands rs row vs name a v h g = put_by rs row vs (place_of rs name) a v (nat_lt (place_of rs name) (length rs)) refl h g

  pub keeps_at : (rs : List Register) (row : List Symbol) (vs : List Value) (k : ℕ) (r : Register) → slice_get rs k ≡ Some r → RowStands rs row vs → KeepsScalar r.scalar (symbol_or (slice_get row k))
  keeps_at rs row vs k r e h = (fits_at rs row vs k r e h).keeps

  -- ---- operands

  global_stands : (name : List ℕ) (o : Option ℕ) (z : ℤ) → Is (global_symbol o z) (moved_by (global_address name o) (offset_in z))
  global_stands name None z = tt
  global_stands name (Some k) z = pointed (GlobalObject k) z

  local_stands : (o : Option ℕ) (z : ℤ) (a : Symbol) (v : Value) → Is a (moved_by v (offset_in z)) → Is (local_symbol o z a) (moved_by (local_address serial o v) (offset_in z))
  local_stands None z a v h = h
  local_stands (Some k) z a v h = pointed (LocalObject serial k) z

  address_stands : (globals : List GlobalDef) (scope : Scope) (name : List ℕ) (z : ℤ) → scope.serial ≡ serial → Is (address_symbol globals scope.locals name z) (moved_by (address_of globals scope name) (offset_in z))
  unfolding address_symbol address_of address_of_global
  address_stands globals scope name z s =
      subst (λ n. Is (address_symbol globals scope.locals name z) (moved_by (local_address n (position (λ (d : Decl). bytes_eq d.name name) scope.locals) (address_of_global globals name)) (offset_in z))) (sym s)
      (local_stands (position (λ (d : Decl). bytes_eq d.name name) scope.locals) z _ (address_of_global globals name) (global_stands name (position (λ (g : GlobalDef). bytes_eq g.decl.name name) globals) z))

  pub operand_stands : (B : Body) (scope : Scope) (row : List Symbol) (vs : List Value) → B.registers ≡ scope.declared → B.locals ≡ scope.locals → scope.serial ≡ serial → RowStands scope.declared row vs → (x : Operand) → Is (operand_symbol B row x) (value_of B.globals scope vs x)
  unfolding operand_symbol
  operand_stands B scope row vs r l s h (Reg name) = subst (λ rs. Is (symbol_or (slice_get row (place_of rs name))) (value_in scope vs name)) (sym r) (register_stands scope row vs name h)
  operand_stands B scope row vs r l s h (Number z) = refl
  operand_stands B scope row vs r l s h NullOperand = refl
  operand_stands B scope row vs r l s h (Address name offset) = subst (λ ds. Is (address_symbol B.globals ds name offset) (moved_by (address_of B.globals scope name) (offset_in offset))) (sym l) (address_stands B.globals scope name offset s)

  global_keeps : (scalar : Scalar) (o : Option ℕ) (z : ℤ) → KeepsScalar scalar (global_symbol o z)
  global_keeps scalar None z = tt
  global_keeps scalar (Some k) z = tt

  local_keeps : (scalar : Scalar) (o : Option ℕ) (z : ℤ) (a : Symbol) → KeepsScalar scalar a → KeepsScalar scalar (local_symbol o z a)
  local_keeps scalar None z a h = h
  local_keeps scalar (Some k) z a h = tt

  pub address_keeps : (scalar : Scalar) (globals : List GlobalDef) (locals : List Decl) (name : List ℕ) (z : ℤ) → KeepsScalar scalar (address_symbol globals locals name z)
  unfolding address_symbol
  address_keeps scalar globals locals name z = local_keeps scalar (position (λ (d : Decl). bytes_eq d.name name) locals) z _ (global_keeps scalar (position (λ (g : GlobalDef). bytes_eq g.decl.name name) globals) z)

  -- ---- arithmetic

  value_keeps : (scalar : Scalar) (v : Value) → KeepsScalar scalar (symbol_of_value v)
  value_keeps scalar (IntValue z) = tt
  value_keeps scalar NullValue = tt
  value_keeps scalar (At (GlobalObject k) o) = tt
  value_keeps scalar (At (LocalObject s k) o) = tt
  value_keeps scalar (Code name) = tt

  pub value_fits : (scalar : Scalar) (v : Value) → Fits scalar (symbol_of_value v) v
  value_fits scalar v = record { stands = value_back mode f arguments serial v; keeps = value_keeps scalar v }

  moved_from : (i : ℕ) (o : Option ℤ) (r : Symbol) (vl vr : Value) → StandsFrom (argument_of f arguments i) o vl → Is r vr → StandsFrom (argument_of f arguments i) (moved_offset o r) (moved_by vl (any_number vr))
  moved_from i None r vl vr h g = from_moved (argument_of f arguments i) vl (any_number vr) h
  moved_from i (Some o) (Const d) vl vr h g =
      subst (λ u. moved_by vl (any_number u) ≡ moved_by (argument_of f arguments i) (wrapped I64 (o +ℤ any_number (value_of_constant d)))) (sym g)
      (ap (λ u. moved_by u (any_number (value_of_constant d))) h ∙ twice (argument_of f arguments i) o (any_number (value_of_constant d)))
  moved_from i (Some o) (Formal j) vl vr h g = from_moved (argument_of f arguments i) vl (any_number vr) (from_known (argument_of f arguments i) vl o h)
  moved_from i (Some o) (FormalOp j op z) vl vr h g = from_moved (argument_of f arguments i) vl (any_number vr) (from_known (argument_of f arguments i) vl o h)
  moved_from i (Some o) (FormalAt j p) vl vr h g = from_moved (argument_of f arguments i) vl (any_number vr) (from_known (argument_of f arguments i) vl o h)
  moved_from i (Some o) (VariableAt x p) vl vr h g = from_moved (argument_of f arguments i) vl (any_number vr) (from_known (argument_of f arguments i) vl o h)
  moved_from i (Some o) Unknown vl vr h g = from_moved (argument_of f arguments i) vl (any_number vr) (from_known (argument_of f arguments i) vl o h)

  moved_at : (object : Object) (o : Option ℤ) (r : Symbol) (vl vr : Value) → StandsAt object o vl → Is r vr → StandsAt object (moved_offset o r) (moved_by vl (any_number vr))
  moved_at object None r vl vr h g = at_moved object vl (any_number vr) h
  moved_at object (Some o) (Const d) vl vr h g =
      subst (λ u. moved_by vl (any_number u) ≡ At object (wrapped I64 (o +ℤ any_number (value_of_constant d)))) (sym g) (at_known object vl o (any_number (value_of_constant d)) h)
  moved_at object (Some o) (Formal j) vl vr h g = at_moved object vl (any_number vr) (o, h)
  moved_at object (Some o) (FormalOp j op z) vl vr h g = at_moved object vl (any_number vr) (o, h)
  moved_at object (Some o) (FormalAt j p) vl vr h g = at_moved object vl (any_number vr) (o, h)
  moved_at object (Some o) (VariableAt x p) vl vr h g = at_moved object vl (any_number vr) (o, h)
  moved_at object (Some o) Unknown vl vr h g = at_moved object vl (any_number vr) (o, h)

  null_moved : (v : Value) (b : ℤ) → v ≡ NullValue → moved_by v b ≡ NullValue
  unfolding moved_by
  null_moved v b e = ap (λ u. moved_by u b) e

  moved_fits : (scalar : Scalar) (l r : Symbol) (vl vr : Value) → Is l vl → KeepsScalar scalar l → Is r vr → Fits scalar (moved_symbol l r) (moved_by vl (any_number vr))
  moved_fits scalar (Const (Int z)) r vl vr h k g = any_fits scalar _
  moved_fits scalar (Const Null) r vl vr h k g = record { stands = null_moved vl (any_number vr) h; keeps = tt }
  moved_fits scalar (Const (GlobalAddress j o)) r vl vr h k g = any_fits scalar _
  moved_fits scalar (Formal i) r vl vr h k g = any_fits scalar _
  moved_fits scalar (FormalOp i op z) r vl vr h k g = any_fits scalar _
  moved_fits scalar (FormalAt i o) r vl vr h k g = record { stands = moved_from i o r vl vr h g; keeps = (k.0, moved_inside o r) }
  moved_fits scalar (VariableAt x o) r vl vr h k g = record { stands = moved_at (object_of serial x) o r vl vr h g; keeps = tt }
  moved_fits scalar Unknown r vl vr h k g = any_fits scalar _

  abbrev okay : Value → Result Value TrapKind
  okay v = Ok v

  okay_same : (v w : Value) → okay v ≡ okay w → v ≡ w
  okay_same v w e = cc

  operated_fits : (scalar : Scalar) (l : Symbol) (op : Op) (r : Symbol) (vl vr v : Value) → Is l vl → KeepsScalar scalar l → Is r vr → arith_of mode scalar vl op vr ≡ Ok v → Fits scalar (operated_symbol l op r) v
  operated_fits scalar (Const c) op r vl vr v h k g e = any_fits scalar v
  operated_fits scalar (Formal i) op (Const (Int z)) vl vr v h k g e =
      record { stands = ap (λ s. arith_of mode s (argument_of f arguments i) op (IntValue z)) k.scalar_is ∙ ((λ n. arith_of mode scalar (sym h n) op (sym g n)) ∙ e); keeps = k }
  operated_fits scalar (Formal i) op (Const Null) vl vr v h k g e = any_fits scalar v
  operated_fits scalar (Formal i) op (Const (GlobalAddress j o)) vl vr v h k g e = any_fits scalar v
  operated_fits scalar (Formal i) op (Formal j) vl vr v h k g e = any_fits scalar v
  operated_fits scalar (Formal i) op (FormalOp j other z) vl vr v h k g e = any_fits scalar v
  operated_fits scalar (Formal i) op (FormalAt j o) vl vr v h k g e = any_fits scalar v
  operated_fits scalar (Formal i) op (VariableAt x o) vl vr v h k g e = any_fits scalar v
  operated_fits scalar (Formal i) op Unknown vl vr v h k g e = any_fits scalar v
  operated_fits scalar (FormalOp i other z) op r vl vr v h k g e = any_fits scalar v
  operated_fits scalar (FormalAt i o) op r vl vr v h k g e = any_fits scalar v
  operated_fits scalar (VariableAt x o) op r vl vr v h k g e = any_fits scalar v
  operated_fits scalar Unknown op r vl vr v h k g e = any_fits scalar v

  pointer_result : (l : Value) (op : Op) (r v : Value) → arith_of mode Ptr l op r ≡ Ok v → moved_by l (any_number r) ≡ v
  unfolding arith_of
  pointer_result l op r v e = okay_same (moved_by l (any_number r)) v e

  other_by : (scalar : Scalar) (b : Bool) → is_pointer scalar ≡ b → (l : Symbol) (op : Op) (r : Symbol) (vl vr v : Value) → Is l vl → KeepsScalar scalar l → Is r vr → (is_pointer scalar ≡ true → scalar ≡ Ptr) → arith_of mode scalar vl op vr ≡ Ok v →
      Fits scalar (cond b (moved_symbol l r) (operated_symbol l op r)) v
  other_by scalar true e l op r vl vr v h k g p d =
      subst (λ u. Fits scalar (moved_symbol l r) u) (pointer_result vl op vr v (subst (λ s. arith_of mode s vl op vr ≡ Ok v) (p e) d)) (moved_fits scalar l r vl vr h k g)
  other_by scalar false e l op r vl vr v h k g p d = operated_fits scalar l op r vl vr v h k g d

  other_fits : (scalar : Scalar) (l : Symbol) (op : Op) (r : Symbol) (vl vr v : Value) → Is l vl → KeepsScalar scalar l → Is r vr → arith_of mode scalar vl op vr ≡ Ok v → Fits scalar (other_symbol scalar l op r) v
  other_fits scalar l op r vl vr v h k g d = other_by scalar (is_pointer scalar) refl l op r vl vr v h k g (is_ptr scalar) d

  constants_fit : (scalar : Scalar) (c d : Constant) (op : Op) (vl vr v : Value) → vl ≡ value_of_constant c → vr ≡ value_of_constant d → arith_of mode scalar vl op vr ≡ Ok v → ReachedWith (λ a. Fits scalar a v) (evaluated (arith_of mode scalar (value_of_constant c) op (value_of_constant d)))
  constants_fit scalar c d op vl vr v h g e =
      let same : arith_of mode scalar (value_of_constant c) op (value_of_constant d) ≡ Ok v = (λ n. arith_of mode scalar (sym h n) op (sym g n)) ∙ e in
      subst (λ r. ReachedWith (λ a. Fits scalar a v) (evaluated r)) (sym same) (value_fits scalar v)

  pub arith_fits : (scalar : Scalar) (l : Symbol) (op : Op) (r : Symbol) (vl vr v : Value) → Is l vl → KeepsScalar scalar l → Is r vr → arith_of mode scalar vl op vr ≡ Ok v → ReachedWith (λ a. Fits scalar a v) (arith_symbol mode scalar l op r)
  unfolding arith_symbol
  arith_fits scalar (Const c) op (Const d) vl vr v h k g e = constants_fit scalar c d op vl vr v h g e
  arith_fits scalar (Const c) op (Formal j) vl vr v h k g e = other_fits scalar (Const c) op (Formal j) vl vr v h k g e
  arith_fits scalar (Const c) op (FormalOp j other z) vl vr v h k g e = other_fits scalar (Const c) op (FormalOp j other z) vl vr v h k g e
  arith_fits scalar (Const c) op (FormalAt j o) vl vr v h k g e = other_fits scalar (Const c) op (FormalAt j o) vl vr v h k g e
  arith_fits scalar (Const c) op (VariableAt x o) vl vr v h k g e = other_fits scalar (Const c) op (VariableAt x o) vl vr v h k g e
  arith_fits scalar (Const c) op Unknown vl vr v h k g e = other_fits scalar (Const c) op Unknown vl vr v h k g e
  arith_fits scalar (Formal i) op r vl vr v h k g e = other_fits scalar (Formal i) op r vl vr v h k g e
  arith_fits scalar (FormalOp i other z) op r vl vr v h k g e = other_fits scalar (FormalOp i other z) op r vl vr v h k g e
  arith_fits scalar (FormalAt i o) op r vl vr v h k g e = other_fits scalar (FormalAt i o) op r vl vr v h k g e
  arith_fits scalar (VariableAt x o) op r vl vr v h k g e = other_fits scalar (VariableAt x o) op r vl vr v h k g e
  arith_fits scalar Unknown op r vl vr v h k g e = other_fits scalar Unknown op r vl vr v h k g e

  -- ---- comparisons

  constants_compared : (to : Scalar) (c d : Constant) (cmp : Cmp) (vl vr : Value) → vl ≡ value_of_constant c → vr ≡ value_of_constant d → Fits to (symbol_of_value (one_if (compares (value_of_constant c) cmp (value_of_constant d)))) (one_if (compares vl cmp vr))
  constants_compared to c d cmp vl vr h g =
      subst (λ v. Fits to (symbol_of_value (one_if (compares (value_of_constant c) cmp (value_of_constant d)))) v) (λ n. one_if (compares (sym h n) cmp (sym g n))) (value_fits to (one_if (compares (value_of_constant c) cmp (value_of_constant d))))

  pub compare_fits : (to : Scalar) (l : Symbol) (cmp : Cmp) (r : Symbol) (vl vr : Value) → Is l vl → Is r vr → Fits to (compare_symbol l cmp r) (one_if (compares vl cmp vr))
  unfolding compare_symbol
  compare_fits to (Const c) cmp (Const d) vl vr h g = constants_compared to c d cmp vl vr h g
  compare_fits to (Const c) cmp (Formal j) vl vr h g = any_fits to _
  compare_fits to (Const c) cmp (FormalOp j other z) vl vr h g = any_fits to _
  compare_fits to (Const c) cmp (FormalAt j o) vl vr h g = any_fits to _
  compare_fits to (Const c) cmp (VariableAt x o) vl vr h g = any_fits to _
  compare_fits to (Const c) cmp Unknown vl vr h g = any_fits to _
  compare_fits to (Formal i) cmp r vl vr h g = any_fits to _
  compare_fits to (FormalOp i other z) cmp r vl vr h g = any_fits to _
  compare_fits to (FormalAt i o) cmp r vl vr h g = any_fits to _
  compare_fits to (VariableAt x o) cmp r vl vr h g = any_fits to _
  compare_fits to Unknown cmp r vl vr h g = any_fits to _
