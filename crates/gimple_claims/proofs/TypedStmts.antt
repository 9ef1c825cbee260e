-- What a statement of a checked function does to a typed world.
use Rattle.std.proofs.Common.{◌≡◌, ℕ, ◌==◌, ◌&&◌, ℤ, pos, negsuc, Bool, true, false, not, List, refl, sym, ◌∙◌, ap, subst, Option, Some, None, Result, Ok, Err, if◌then◌else◌, slice_get, nat_lt}
use Rattle.std.specs.List.{find, list_all}
use Rattle.gimple_ir.specs.declared.scalar.Scalar.{Scalar}
use Rattle.gimple_ir.specs.declared.scalar.Scalar.TheVariants.{I64, Ptr}
use Rattle.gimple_ir.specs.declared.scalar.Op.{Op}
use Rattle.gimple_ir.specs.declared.declarations.Register.{Register}
use Rattle.gimple_ir.specs.declared.operand.Operand.{Operand}
use Rattle.gimple_ir.specs.declared.value.Object.{Object}
use Rattle.gimple_ir.specs.declared.value.Value.{Value}
use Rattle.gimple_ir.specs.declared.value.Value.TheVariants.{Int, Null, At, Code}
use Rattle.gimple_ir.specs.declared.value.TrapKind.{TrapKind}
use Rattle.gimple_ir.specs.declared.value.TrapKind.TheVariants.{ReadOnly, Bounds}
use Rattle.gimple_ir.specs.declared.statement.Stmt.{Stmt}
use Rattle.gimple_ir.specs.declared.statement.Stmt.TheVariants.{Copy, Arith, Compare, Convert, Load, Store, Call, Indirect, Get, Put, Abort}
use Rattle.gimple_ir.specs.declared.program.Function.{Function}
use Rattle.gimple_ir.specs.declared.program.Program.{Program}
use Rattle.gimple_core.specs.declared.machine.MemorySlot.{MemorySlot}
use Rattle.gimple_core.specs.declared.machine.Extent.{Extent}
use Rattle.gimple_core.specs.declared.machine.FoundSlot.{FoundSlot}
use Rattle.gimple_core.specs.Operators.{in_scalar}
use Rattle.gimple_core.specs.Memory.{Memory, found_at, found_extent, found_offset, found_slot, put_slot, is_slot, same_object, same_scalar}
use Rattle.gimple_core.specs.State.{World, Scope, Setting, registers_of, put_at, assigned, is_of}
use Rattle.gimple_core.specs.Run.{act, assign, assign_result, loaded, stored, got}
use Rattle.gimple_core.specs.Verdict.{demand}
use Rattle.gimple_core.specs.Env.{Names, scalar_of}
use Rattle.gimple_core.specs.Statements as s
use Rattle.gimple_core.proofs.Passed.{first_passed, demanded}
use Rattle.gimple_core.proofs.RangeLemmas.{wrapped_in}
use Rattle.gimple_core.proofs.ScalarLemmas.{same_scalar_true}
use Rattle.gimple_claims.specs.Checks.{env_of}
use Rattle.gimple_claims.specs.Typed.{registers_typed, slots_typed}
use Rattle.gimple_claims.proofs.Lists.{found_test, found_has, all_updated, all_at}
use Rattle.gimple_claims.proofs.TypedValues.{HasRegister, has_register, typed_put, scalar_there, operand_is, ValueIs, arith_is, bit_in, int_is}

-- the registers of a frame and the slots of memory hold values of their scalars
pub record WorldTyped (declared : List Register) (m : World) : Type 0 where
  pub registers : registers_typed declared m.registers ≡ true
  pub slots : slots_typed m.memory.slots ≡ true

-- a value of its scalar put into a register
assigned_is : (scope : Scope) (values : List Value) (name : List ℕ) (scalar : Scalar) (v : Value) → registers_typed scope.declared values ≡ true → HasRegister scope.declared name scalar → is_of scalar v ≡ true → registers_typed scope.declared (assigned scope values name v) ≡ true
assigned_is scope values name scalar v t c h =
    ap (λ o. registers_typed scope.declared (put_at values o v)) c.place_is ∙ typed_put scope.declared values c.place c.register v t c.at (ap (λ a. is_of a v) c.scalar_is ∙ h)

-- ---- memory

third_true : (a b c : Bool) → a && b && c ≡ true → c ≡ true
third_true true true c e = e
third_true true false c e = cc
third_true false b c e = cc

slot_scalar : (object : Object) (offset : ℕ) (scalar : Scalar) (x : MemorySlot) → is_slot object offset scalar x ≡ true → x.scalar ≡ scalar
slot_scalar object offset scalar x e = same_scalar_true x.scalar scalar (third_true (same_object x.object object) (x.offset == offset) (same_scalar x.scalar scalar) e)

abbrev pub FoundIs : Scalar → Result FoundSlot TrapKind → Type 0
FoundIs scalar (Ok f) = is_of scalar f.value ≡ true
FoundIs scalar (Err k) = Unit {0}

module _ (slots : List MemorySlot) (t : slots_typed slots ≡ true) (scalar : Scalar) where
  slot_is : (object : Object) (offset : ℕ) (constant : Bool) (o : Option MemorySlot) → find (is_slot object offset scalar) slots ≡ o → FoundIs scalar (found_slot object offset constant o)
  slot_is object offset constant None e = tt
  slot_is object offset constant (Some x) e =
      ap (λ a. is_of a x.value) (sym (slot_scalar object offset scalar x (found_test (is_slot object offset scalar) slots x e)))
      ∙ found_has (λ (y : MemorySlot). is_of y.scalar y.value) (is_slot object offset scalar) slots x t e

  offset_by : (object : Object) (n : ℕ) (x : Extent) (b : Bool) → FoundIs scalar (if b then found_slot object n x.constant (find (is_slot object n scalar) slots) else Err Bounds)
  offset_by object n x true = slot_is object n x.constant _ refl
  offset_by object n x false = tt

  offset_is : (object : Object) (z : ℤ) (x : Extent) → FoundIs scalar (found_offset slots object z scalar x)
  offset_is object (pos n) x = offset_by object n x (nat_lt n x.size)
  offset_is object (negsuc n) x = tt

  extent_is : (object : Object) (z : ℤ) (o : Option Extent) → FoundIs scalar (found_extent slots object z scalar o)
  extent_is object z None = tt
  extent_is object z (Some x) = offset_is object z x

  put_is : (object : Object) (offset : ℕ) (v : Value) → is_of scalar v ≡ true → slots_typed (put_slot slots object offset scalar v) ≡ true
  put_is object offset v h =
      all_updated (λ (x : MemorySlot). is_of x.scalar x.value) (is_slot object offset scalar) (λ (x : MemorySlot). record x { value = v }) slots t
      (λ x e. ap (λ a. is_of a v) (slot_scalar object offset scalar x (found_test (is_slot object offset scalar) slots x e)) ∙ h)

pub found_is : (m : Memory) (t : slots_typed m.slots ≡ true) (v : Value) (scalar : Scalar) → FoundIs scalar (found_at m v scalar)
unfolding found_at
found_is m t (Int z) scalar = tt
found_is m t Null scalar = tt
found_is m t (Code name) scalar = tt
found_is m t (At object offset) scalar = extent_is m.slots t scalar object offset _

-- ---- statements

abbrev ActIs : List Register → Result World TrapKind → Type 0
ActIs declared (Ok w) = WorldTyped declared w
ActIs declared (Err k) = Unit {0}

module _ (p : Program) (f : Function) (e : Setting) (scope : Scope) (m : World) (d : scope.declared ≡ registers_of f) (t : WorldTyped scope.declared m) (input : list_all (in_scalar I64) m.input ≡ true) where
  assign_is : (to : List ℕ) (scalar : Scalar) (v : Value) → scalar_of (env_of p f) to ≡ Ok scalar → is_of scalar v ≡ true → WorldTyped scope.declared (assign scope m to v)
  assign_is to scalar v g h = record { registers = assigned_is scope m.registers to scalar v t.registers (has_register p f scope.declared to scalar d g) h; slots = t.slots }

  assign_result_is : (to : List ℕ) (scalar : Scalar) → scalar_of (env_of p f) to ≡ Ok scalar → (r : Result Value TrapKind) → ValueIs scalar r → ActIs scope.declared (assign_result scope m to r)
  assign_result_is to scalar g (Ok v) h = assign_is to scalar v g h
  assign_result_is to scalar g (Err kind) h = tt

  loaded_is : (to : List ℕ) (scalar : Scalar) → scalar_of (env_of p f) to ≡ Ok scalar → (r : Result FoundSlot TrapKind) → FoundIs scalar r → ActIs scope.declared (loaded scope m to r)
  loaded_is to scalar g (Ok x) h = assign_is to scalar x.value g h
  loaded_is to scalar g (Err kind) h = tt

  stored_by : (scalar : Scalar) (v : Value) (x : FoundSlot) → is_of scalar v ≡ true → (b : Bool) → ActIs scope.declared (if b then Err ReadOnly else Ok (record m { memory = record m.memory { slots = put_slot m.memory.slots x.object x.offset scalar v } }))
  stored_by scalar v x h true = tt
  stored_by scalar v x h false = record { registers = t.registers; slots = put_is m.memory.slots t.slots scalar x.object x.offset v h }

  stored_is : (scalar : Scalar) (v : Value) → is_of scalar v ≡ true → (r : Result FoundSlot TrapKind) → ActIs scope.declared (stored m scalar v r)
  stored_is scalar v h (Ok x) = stored_by scalar v x h x.constant
  stored_is scalar v h (Err kind) = tt

  got_is : (to : List ℕ) → scalar_of (env_of p f) to ≡ Ok I64 → (o : Option ℤ) → slice_get m.input m.taken ≡ o → WorldTyped scope.declared (got scope m to o)
  got_is to r None g = assign_is to I64 (Int (pos 0)) r refl
  got_is to r (Some z) g =
      let w : WorldTyped scope.declared (assign scope m to (Int z)) = assign_is to I64 (Int z) r (all_at (in_scalar I64) m.input m.taken z input g) in
      record { registers = w.registers; slots = w.slots }

  -- the left side of an addition to a pointer
  left_is : (scalar : Scalar) (left : Operand) (op : Op) (right : Operand) → s.arith (env_of p f) scalar left op right ≡ Ok tt → scalar ≡ Ptr → s.operand (env_of p f) 4 Ptr left ≡ Ok tt
  unfolding s.arith
  left_is scalar left op right h same =
      let whole : s.arith (env_of p f) Ptr left op right ≡ Ok tt = subst (λ a. s.arith (env_of p f) a left op right ≡ Ok tt) same h in
      let a = first_passed (demand (s.is_add op) 4) _ tt whole in
      let b = first_passed (s.operand (env_of p f) 4 Ptr left) _ tt a.2 in
      b.1

  act_is : (names : Names Function) (x : Stmt) → s.statement (env_of p f) names x ≡ Ok tt → ActIs scope.declared (act e scope x m)
  unfolding act s.statement s.converted
  act_is names (Copy to from) h =
      let a = first_passed (scalar_of (env_of p f) to) _ tt h in
      assign_is to a.0 _ a.1 (operand_is p f e.globals scope m.registers d t.registers 4 a.0 from a.2)
  act_is names (Arith to left op right) h =
      let a = first_passed (scalar_of (env_of p f) to) _ tt h in
      rw (scalar_there p f scope to a.0 d a.1)
      (assign_result_is to a.0 a.1 _ (arith_is e.mode a.0 _ op _ (λ same. operand_is p f e.globals scope m.registers d t.registers 4 Ptr left (left_is a.0 left op right a.2 same))))
  act_is names (Compare to left cmp right) h =
      let a = first_passed (scalar_of (env_of p f) to) _ tt h in
      let b = first_passed (demand (not (s.is_pointer a.0)) 4) _ tt a.2 in
      assign_is to a.0 _ a.1 (bit_in a.0 _ (demanded _ 4 b.1))
  act_is names (Convert to scalar from) h =
      let a = first_passed (scalar_of (env_of p f) to) _ tt h in
      let b = first_passed (s.integer (env_of p f) from) _ tt a.2 in
      let c = first_passed (demand (not (s.is_pointer scalar)) 4) _ tt b.2 in
      let same : scalar ≡ a.0 = same_scalar_true scalar a.0 (demanded _ 4 c.2) in
      assign_is to scalar _ (subst (λ b. scalar_of (env_of p f) to ≡ Ok b) (sym same) a.1) (int_is scalar _ (demanded _ 4 c.1) (wrapped_in scalar _))
  act_is names (Load to scalar place) h =
      let a = first_passed (scalar_of (env_of p f) to) _ tt h in
      let b = first_passed (demand (same_scalar scalar a.0) 4) _ tt a.2 in
      let same : scalar ≡ a.0 = same_scalar_true scalar a.0 (demanded _ 4 b.1) in
      loaded_is to scalar (subst (λ b. scalar_of (env_of p f) to ≡ Ok b) (sym same) a.1) _ (found_is m.memory t.slots _ scalar)
  act_is names (Store scalar place from) h =
      let a = first_passed (s.place (env_of p f) scalar place) _ tt h in
      let b = first_passed (demand (not (s.is_read_only (env_of p f) place.base)) 14) _ tt a.2 in
      stored_is scalar _ (operand_is p f e.globals scope m.registers d t.registers 4 scalar from b.2) _
  act_is names (Call to callee arguments) h = tt
  act_is names (Indirect to signature callee arguments) h = tt
  act_is names (Get to) h =
      let a = first_passed (scalar_of (env_of p f) to) _ tt h in
      let same : a.0 ≡ I64 = same_scalar_true a.0 I64 (demanded _ 4 a.2) in
      got_is to (subst (λ b. scalar_of (env_of p f) to ≡ Ok b) same a.1) (slice_get m.input m.taken) refl
  act_is names (Put from) h = record { registers = t.registers; slots = t.slots }
  act_is names Abort h = tt

  pub acted_typed : (names : Names Function) (x : Stmt) (w : World) → s.statement (env_of p f) names x ≡ Ok tt → act e scope x m ≡ Ok w → WorldTyped scope.declared w
  acted_typed names x w h did = subst (ActIs scope.declared) did (act_is names x h)
