-- Pointers and function values come from addresses: a property of values that numbers and null have, and that moves keep, is one of all
-- values of a run where the addresses that are taken have it.
use Rattle.std.proofs.Common.{◌≡◌, ℕ, zero, suc, ◌+◌, ◌<◌, ℤ, pos, negsuc, Bool, true, false, arith, List, [], ◌∷◌, ◌++◌, map, length, refl, sym, ◌∙◌, ap, subst, Option, Some, None, Result, Ok, Err, All, IfSome, filter, if◌then◌else◌, nat_lt, slice_get, unwrap_or}
use Rattle.std.specs.List.{find, Contains}
use Rattle.std.proofs.lemmas.List.{get_or_default}
use Rattle.std.proofs.lemmas.List.Elements.{All-nil, All-cons, All-head, All-tail, All-append, All-set, All-map, All-filter}
use Rattle.gimple_ir.specs.declared.scalar.Mode.{Mode}
use Rattle.gimple_ir.specs.declared.scalar.Op.{Op}
use Rattle.gimple_ir.specs.declared.scalar.Scalar.{Scalar}
use Rattle.gimple_ir.specs.declared.scalar.Scalar.TheVariants.{I8, I16, I32, I64, U8, U16, U32, U64, Ptr}
use Rattle.gimple_ir.specs.declared.value.Value.{Value}
use Rattle.gimple_ir.specs.declared.value.Value.TheVariants.{Int, Null, At, Code}
use Rattle.gimple_ir.specs.declared.value.Object.{Object}
use Rattle.gimple_ir.specs.declared.value.Object.TheVariants.{Global as GlobalObject, Local as LocalObject}
use Rattle.gimple_ir.specs.declared.value.LayoutSlot.{LayoutSlot}
use Rattle.gimple_ir.specs.declared.value.Layout.{Layout}
use Rattle.gimple_ir.specs.declared.value.TrapKind.{TrapKind}
use Rattle.gimple_ir.specs.declared.operand.Operand.{Operand}
use Rattle.gimple_ir.specs.declared.operand.Operand.TheVariants.{Reg, Number, Null as NullOperand, Address}
use Rattle.gimple_ir.specs.declared.declarations.Decl.{Decl}
use Rattle.gimple_ir.specs.declared.declarations.StructDef.{StructDef}
use Rattle.gimple_ir.specs.declared.declarations.Global.{Global}
use Rattle.gimple_ir.specs.declared.declarations.Register.{Register}
use Rattle.gimple_ir.specs.declared.statement.Stmt.{Stmt}
use Rattle.gimple_ir.specs.declared.statement.Stmt.TheVariants.{Copy, Arith, Compare, Convert, Load, Store, Call, Indirect, Get, Put, Abort}
use Rattle.gimple_ir.specs.declared.program.Function.{Function}
use Rattle.gimple_core.specs.declared.machine.MemorySlot.{MemorySlot}
use Rattle.gimple_core.specs.declared.machine.FoundSlot.{FoundSlot}
use Rattle.gimple_core.specs.declared.machine.Extent.{Extent}
use Rattle.gimple_core.specs.Names.{update_first}
use Rattle.gimple_core.specs.Operators.{op_of}
use Rattle.gimple_core.specs.Layout.{layout_of}
use Rattle.gimple_core.specs.Memory.{Memory, moved_by, found_at, found_extent, found_offset, found_slot, is_slot, put_slot, without_frame, same_object}
use Rattle.gimple_core.specs.State.{Control, World, State, Scope, Setting, zero_of, value_at, value_in, put_at, number_in, offset_in}
use Rattle.gimple_core.specs.Run.{local_address, global_address, address_of_global, address_of, value_of, values_of, value_result, right_number, any_number, arith_of, one_if, filled, item_value, with_object, with_globals, with_locals, values_made, registers_made, loaded, stored, got, assign_result, act, Callee, Named, Through, Calling, call_of}
use Rattle.gimple_core.specs.Reach.{operands_of, TakesAddress, MentionsInItems}

-- an address among operands
pub first_address : (x : Operand) (xs : List Operand) (name : List ℕ) (offset : ℤ) → x ≡ Address name offset → TakesAddress name (x ∷ xs)
first_address x xs name offset e = (offset, (0, omega arith, e))

pub later_address : (x : Operand) (xs : List Operand) (name : List ℕ) → TakesAddress name xs → TakesAddress name (x ∷ xs)
later_address x xs name t = (t.0, (suc t.1.0, (let some : t.1.0 < length xs = t.1.1 in omega (arith, some)), t.1.2))

-- the operands of a call are its arguments
pub arguments_of_call : (x : Stmt) (c : Calling) → call_of x ≡ Some c → operands_of x ≡ c.arguments
arguments_of_call (Copy to from) c e = cc
arguments_of_call (Arith to left op right) c e = cc
arguments_of_call (Compare to left cmp right) c e = cc
arguments_of_call (Convert to scalar from) c e = cc
arguments_of_call (Load to scalar place) c e = cc
arguments_of_call (Store scalar place from) c e = cc
arguments_of_call (Call to callee arguments) c e = let same : record { to = to; callee = Named callee; arguments = arguments } ≡ c = cc in ap (λ (d : Calling). d.arguments) same
arguments_of_call (Indirect to signature callee arguments) c e =
    let same : record { to = to; callee = Through callee signature; arguments = arguments } ≡ c = cc in ap (λ (d : Calling). d.arguments) same
arguments_of_call (Get to) c e = cc
arguments_of_call (Put from) c e = cc
arguments_of_call Abort c e = cc

-- numbers and null have the property, and a value keeps it when it is moved
pub record IsOfAddresses (V : Value → Type 0) : Type 0 where
  pub number : (z : ℤ) → V (Int z)
  pub null : V Null
  pub moved : (v : Value) (by : ℤ) → V v → V (moved_by v by)

module _ (V : Value → Type 0) (law : IsOfAddresses V) where
  abbrev pub MemoryIn : Memory → Type 0
  MemoryIn m = All (λ (s : MemorySlot). V s.value) m.slots

  -- the addresses among the operands have the property
  abbrev pub OperandsIn : List Global → Scope → List Operand → Type 0
  OperandsIn globals scope xs = (name : List ℕ) → TakesAddress name xs → V (address_of globals scope name)

  pub record WorldIn (d : World) : Type 0 where
    pub registers : All V d.registers
    pub memory : MemoryIn d.memory

  -- ---- registers and operands

  got_in : (vs : List Value) (k : ℕ) → All V vs → V (unwrap_or (slice_get vs k) Null)
  got_in [] k h = law.null
  got_in (v ∷ vs) zero h = All-head V v vs h
  got_in (v ∷ vs) (suc k) h = got_in vs k (All-tail V v vs h)

  pub value_at_in : (vs : List Value) (o : Option ℕ) → All V vs → V (value_at vs o)
  value_at_in vs None h = law.null
  value_at_in vs (Some k) h = got_in vs k h

  pub put_at_in : (vs : List Value) (o : Option ℕ) (v : Value) → V v → All V vs → All V (put_at vs o v)
  put_at_in vs None v p h = h
  put_at_in vs (Some k) v p h = All-set V vs k v p h

  pub value_of_in : (globals : List Global) (scope : Scope) (vs : List Value) (x : Operand) → All V vs → ((name : List ℕ) (offset : ℤ) → x ≡ Address name offset → V (address_of globals scope name)) → V (value_of globals scope vs x)
  unfolding value_in
  value_of_in globals scope vs (Reg name) h k = value_at_in vs _ h
  value_of_in globals scope vs (Number z) h k = law.number z
  value_of_in globals scope vs NullOperand h k = law.null
  value_of_in globals scope vs (Address name offset) h k = law.moved (address_of globals scope name) (offset_in offset) (k name offset refl)

  pub first_in : (globals : List Global) (scope : Scope) (vs : List Value) (x : Operand) (xs : List Operand) → All V vs → OperandsIn globals scope (x ∷ xs) → V (value_of globals scope vs x)
  first_in globals scope vs x xs h k = value_of_in globals scope vs x h (λ name offset e. k name (first_address x xs name offset e))

  pub values_of_in : (globals : List Global) (scope : Scope) (vs : List Value) (xs : List Operand) → All V vs → OperandsIn globals scope xs → All V (values_of globals scope vs xs)
  values_of_in globals scope vs [] h k = All-nil V
  values_of_in globals scope vs (x ∷ xs) h k =
      All-cons V _ _ (first_in globals scope vs x xs h k) (values_of_in globals scope vs xs h (λ name t. k name (later_address x xs name t)))

  item_in : (globals : List Global) (x : Operand) → ((name : List ℕ) (offset : ℤ) → x ≡ Address name offset → V (address_of_global globals name)) → V (item_value globals x)
  item_in globals (Reg name) k = law.null
  item_in globals (Number z) k = law.number z
  item_in globals NullOperand k = law.null
  item_in globals (Address name offset) k = law.moved (address_of_global globals name) (offset_in offset) (k name offset refl)

  items_in : (globals : List Global) (xs : List Operand) → ((name : List ℕ) → TakesAddress name xs → V (address_of_global globals name)) → All V (map (item_value globals) xs)
  items_in globals [] k = All-nil V
  items_in globals (x ∷ xs) k =
      All-cons V _ _ (item_in globals x (λ name offset e. k name (first_address x xs name offset e))) (items_in globals xs (λ name t. k name (later_address x xs name t)))

  -- ---- memory

  abbrev FoundIn : Result FoundSlot TrapKind → Type 0
  FoundIn (Ok f) = V f.value
  FoundIn (Err kind) = Unit {0}

  find_by : {X : Type 0} (P : X → Type 0) (x : X) (o : Option X) (b : Bool) → P x → IfSome o P → IfSome (if b then Some x else o) P
  find_by P x o true p h = p
  find_by P x o false p h = h

  found_first : {X : Type 0} (P : X → Type 0) (test : X → Bool) (xs : List X) → All P xs → IfSome (find test xs) P
  found_first P test [] h = tt
  found_first P test (x ∷ xs) h = find_by P x (find test xs) (test x) (All-head P x xs h) (found_first P test xs (All-tail P x xs h))

  slot_in : (object : Object) (offset : ℕ) (constant : Bool) (o : Option MemorySlot) → IfSome o (λ (s : MemorySlot). V s.value) → FoundIn (found_slot object offset constant o)
  slot_in object offset constant None h = tt
  slot_in object offset constant (Some s) h = h

  bounded_in : (b : Bool) (r : Result FoundSlot TrapKind) (kind : TrapKind) → FoundIn r → FoundIn (if b then r else Err kind)
  bounded_in true r kind h = h
  bounded_in false r kind h = tt

  offset_found : (slots : List MemorySlot) (object : Object) (offset : ℤ) (scalar : Scalar) (x : Extent) → All (λ (s : MemorySlot). V s.value) slots → FoundIn (found_offset slots object offset scalar x)
  offset_found slots object (pos n) scalar x h = bounded_in (nat_lt n x.size) _ _ (slot_in object n x.constant _ (found_first (λ (s : MemorySlot). V s.value) (is_slot object n scalar) slots h))
  offset_found slots object (negsuc n) scalar x h = tt

  extent_found : (slots : List MemorySlot) (object : Object) (offset : ℤ) (scalar : Scalar) (o : Option Extent) → All (λ (s : MemorySlot). V s.value) slots → FoundIn (found_extent slots object offset scalar o)
  extent_found slots object offset scalar None h = tt
  extent_found slots object offset scalar (Some x) h = offset_found slots object offset scalar x h

  pub found_in : (m : Memory) (v : Value) (scalar : Scalar) → MemoryIn m → FoundIn (found_at m v scalar)
  unfolding found_at
  found_in m (Int z) scalar h = tt
  found_in m Null scalar h = tt
  found_in m (Code name) scalar h = tt
  found_in m (At object offset) scalar h = extent_found m.slots object offset scalar _ h

  updated_by : (test : MemorySlot → Bool) (v : Value) (x : MemorySlot) (xs : List MemorySlot) (b : Bool) → V v → V x.value → All (λ (s : MemorySlot). V s.value) xs →
      All (λ (s : MemorySlot). V s.value) (update_first test (λ s. record s { value = v }) xs) →
      All (λ (s : MemorySlot). V s.value) (if b then record x { value = v } ∷ xs else x ∷ update_first test (λ s. record s { value = v }) xs)
  updated_by test v x xs true p q h more = All-cons (λ (s : MemorySlot). V s.value) _ xs p h
  updated_by test v x xs false p q h more = All-cons (λ (s : MemorySlot). V s.value) x _ q more

  updated_in : (test : MemorySlot → Bool) (v : Value) (xs : List MemorySlot) → V v → All (λ (s : MemorySlot). V s.value) xs → All (λ (s : MemorySlot). V s.value) (update_first test (λ s. record s { value = v }) xs)
  unfolding update_first
  updated_in test v [] p h = h
  updated_in test v (x ∷ xs) p h =
      updated_by test v x xs (test x) p (All-head (λ (s : MemorySlot). V s.value) x xs h) (All-tail (λ (s : MemorySlot). V s.value) x xs h)
      (updated_in test v xs p (All-tail (λ (s : MemorySlot). V s.value) x xs h))

  zero_in : (scalar : Scalar) → V (zero_of scalar)
  zero_in I8 = law.number (pos 0)
  zero_in I16 = law.number (pos 0)
  zero_in I32 = law.number (pos 0)
  zero_in I64 = law.number (pos 0)
  zero_in U8 = law.number (pos 0)
  zero_in U16 = law.number (pos 0)
  zero_in U32 = law.number (pos 0)
  zero_in U64 = law.number (pos 0)
  zero_in Ptr = law.null

  filled_in : (object : Object) (ss : List LayoutSlot) (vs : List Value) → All V vs → All (λ (s : MemorySlot). V s.value) (filled object ss vs)
  filled_in object [] vs h = All-nil (λ (s : MemorySlot). V s.value)
  filled_in object (s ∷ ss) [] h = All-cons (λ (s : MemorySlot). V s.value) _ _ (zero_in s.scalar) (filled_in object ss [] h)
  filled_in object (s ∷ ss) (v ∷ vs) h = All-cons (λ (s : MemorySlot). V s.value) _ _ (All-head V v vs h) (filled_in object ss vs (All-tail V v vs h))

  with_object_in : (m : Memory) (object : Object) (layout : Layout) (constant : Bool) (vs : List Value) → MemoryIn m → All V vs → MemoryIn (with_object m object layout constant vs)
  with_object_in m object layout constant vs h k = All-append (λ (s : MemorySlot). V s.value) m.slots (filled object layout.slots vs) h (filled_in object layout.slots vs k)

  pub with_locals_in : (structs : List StructDef) (serial k : ℕ) (ds : List Decl) (m : Memory) → MemoryIn m → MemoryIn (with_locals structs serial k ds m)
  unfolding with_locals
  with_locals_in structs serial k [] m h = h
  with_locals_in structs serial k (d ∷ ds) m h =
      with_locals_in structs serial (k + 1) ds (with_object m (LocalObject serial k) (layout_of structs d) false [])
      (with_object_in m (LocalObject serial k) (layout_of structs d) false [] h (All-nil V))

  pub with_globals_in : (structs : List StructDef) (all : List Global) (k : ℕ) (gs : List Global) (m : Memory) → MemoryIn m → ((name : List ℕ) → MentionsInItems name gs → V (address_of_global all name)) → MemoryIn (with_globals structs all k gs m)
  unfolding with_globals
  with_globals_in structs all k [] m h items = h
  with_globals_in structs all k (g ∷ gs) m h items =
      with_globals_in structs all (k + 1) gs (with_object m (GlobalObject k) (layout_of structs g.decl) g.constant (map (item_value all) g.items))
      (with_object_in m (GlobalObject k) (layout_of structs g.decl) g.constant (map (item_value all) g.items) h (items_in all g.items (λ name t. items name (MentionsInItems.here g gs t))))
      (λ name t. items name (MentionsInItems.later g gs t))

  pub without_frame_in : (serial : ℕ) (m : Memory) → MemoryIn m → MemoryIn (without_frame serial m)
  unfolding without_frame
  without_frame_in serial m h = All-filter _ (λ (s : MemorySlot). V s.value) m.slots h

  default_in : (o : Option Value) (v : Value) → IfSome o V → V v → V (unwrap_or o v)
  default_in None v h p = p
  default_in (Some w) v h p = h

  slice_in : (vs : List Value) (k : ℕ) → All V vs → IfSome (slice_get vs k) V
  slice_in [] k h = tt
  slice_in (v ∷ vs) zero h = All-head V v vs h
  slice_in (v ∷ vs) (suc k) h = slice_in vs k (All-tail V v vs h)

  values_made_in : (rs : List Register) (vs : List Value) (k : ℕ) → All V vs → All V (values_made rs vs k)
  unfolding values_made
  values_made_in [] vs k h = All-nil V
  values_made_in (r ∷ rs) vs k h = All-cons V _ _ (default_in (slice_get vs k) (zero_of r.scalar) (slice_in vs k h) (zero_in r.scalar)) (values_made_in rs vs (k + 1) h)

  pub registers_made_in : (f : Function) (vs : List Value) → All V vs → All V (registers_made f vs)
  registers_made_in f vs h = All-append V _ _ (values_made_in f.params vs 0 h) (values_made_in f.registers [] 0 (All-nil V))

  -- ---- statements

  abbrev ValueResultIn : Result Value TrapKind → Type 0
  ValueResultIn (Ok v) = V v
  ValueResultIn (Err kind) = Unit {0}

  number_in_set : (r : Result ℤ TrapKind) → ValueResultIn (value_result r)
  number_in_set (Ok z) = law.number z
  number_in_set (Err kind) = tt

  arith_in : (mode : Mode) (scalar : Scalar) (l : Value) (op : Op) (r : Value) → V l → ValueResultIn (arith_of mode scalar l op r)
  unfolding arith_of
  arith_in mode Ptr l op r h = law.moved l (any_number r) h
  arith_in mode I8 l op r h = number_in_set _
  arith_in mode I16 l op r h = number_in_set _
  arith_in mode I32 l op r h = number_in_set _
  arith_in mode I64 l op r h = number_in_set _
  arith_in mode U8 l op r h = number_in_set _
  arith_in mode U16 l op r h = number_in_set _
  arith_in mode U32 l op r h = number_in_set _
  arith_in mode U64 l op r h = number_in_set _

  truth_in : (b : Bool) → V (one_if b)
  truth_in true = law.number (pos 1)
  truth_in false = law.number (pos 0)

  abbrev pub ActedIn : Result World TrapKind → Type 0
  ActedIn (Ok d) = WorldIn d
  ActedIn (Err kind) = Unit {0}

  assign_in : (scope : Scope) (d : World) (to : List ℕ) (v : Value) → WorldIn d → V v → ActedIn (assign_result scope d to (Ok v))
  assign_in scope d to v w p = record { registers = put_at_in d.registers _ v p w.registers; memory = w.memory }

  assign_result_in : (scope : Scope) (d : World) (to : List ℕ) (r : Result Value TrapKind) → WorldIn d → ValueResultIn r → ActedIn (assign_result scope d to r)
  assign_result_in scope d to (Ok v) w p = assign_in scope d to v w p
  assign_result_in scope d to (Err kind) w p = tt

  loaded_in : (scope : Scope) (d : World) (to : List ℕ) (r : Result FoundSlot TrapKind) → WorldIn d → FoundIn r → ActedIn (loaded scope d to r)
  loaded_in scope d to (Ok f) w p = assign_in scope d to f.value w p
  loaded_in scope d to (Err kind) w p = tt

  stored_by : (d : World) (scalar : Scalar) (v : Value) (f : FoundSlot) (b : Bool) → f.constant ≡ b → WorldIn d → V v → ActedIn (stored d scalar v (Ok f))
  stored_by d scalar v f true e w p = rw e tt
  stored_by d scalar v f false e w p = rw e (record { registers = w.registers; memory = updated_in (is_slot f.object f.offset scalar) v d.memory.slots p w.memory })

  stored_in : (d : World) (scalar : Scalar) (v : Value) (r : Result FoundSlot TrapKind) → WorldIn d → V v → ActedIn (stored d scalar v r)
  stored_in d scalar v (Ok f) w p = stored_by d scalar v f f.constant refl w p
  stored_in d scalar v (Err kind) w p = tt

  got_number_in : (scope : Scope) (d : World) (to : List ℕ) (o : Option ℤ) → WorldIn d → WorldIn (got scope d to o)
  got_number_in scope d to None w = assign_in scope d to (Int (pos 0)) w (law.number (pos 0))
  got_number_in scope d to (Some z) w = record { registers = put_at_in d.registers _ (Int z) (law.number z) w.registers; memory = w.memory }

  -- what a statement that is no call leaves
  pub act_in : (e : Setting) (scope : Scope) (x : Stmt) (d : World) → OperandsIn e.globals scope (operands_of x) → WorldIn d → ActedIn (act e scope x d)
  unfolding act
  act_in e scope (Copy to from) d k w = assign_in scope d to _ w (first_in e.globals scope d.registers from [] w.registers k)
  act_in e scope (Arith to left op right) d k w = assign_result_in scope d to _ w (arith_in e.mode _ _ op _ (first_in e.globals scope d.registers left (right ∷ []) w.registers k))
  act_in e scope (Compare to left cmp right) d k w = assign_in scope d to _ w (truth_in _)
  act_in e scope (Convert to scalar from) d k w = assign_in scope d to _ w (law.number _)
  act_in e scope (Load to scalar place) d k w = loaded_in scope d to _ w (found_in d.memory _ scalar w.memory)
  act_in e scope (Store scalar place from) d k w = stored_in d scalar _ _ w (first_in e.globals scope d.registers from [] w.registers k)
  act_in e scope (Call to callee arguments) d k w = tt
  act_in e scope (Indirect to signature callee arguments) d k w = tt
  act_in e scope (Get to) d k w = got_number_in scope d to _ w
  act_in e scope (Put from) d k w = record { registers = w.registers; memory = w.memory }
  act_in e scope Abort d k w = tt
