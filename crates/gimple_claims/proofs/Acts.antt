-- What a statement that is no call does to the world.
use Rattle.std.proofs.Common.{◌≡◌, ℕ, ◌+◌, ℤ, pos, negsuc, Bool, true, false, List, refl, subst, Option, Some, None, Result, Ok, Err, if◌then◌else◌, nat_lt, slice_get}
use Rattle.std.specs.List.{find}
use Rattle.gimple_ir.specs.declared.scalar.Scalar.{Scalar}
use Rattle.gimple_ir.specs.declared.value.Value.{Value}
use Rattle.gimple_ir.specs.declared.value.Value.TheVariants.{Int, Null, At, Code}
use Rattle.gimple_ir.specs.declared.value.Object.{Object}
use Rattle.gimple_ir.specs.declared.value.TrapKind.{TrapKind}
use Rattle.gimple_ir.specs.declared.value.TrapKind.TheVariants.{ReadOnly, Bounds}
use Rattle.gimple_ir.specs.declared.statement.Stmt.{Stmt}
use Rattle.gimple_ir.specs.declared.statement.Stmt.TheVariants.{Copy, Arith, Compare, Convert, Load, Store, Call, Indirect, Get, Put, Abort}
use Rattle.gimple_core.specs.declared.machine.MemorySlot.{MemorySlot}
use Rattle.gimple_core.specs.declared.machine.Extent.{Extent}
use Rattle.gimple_core.specs.declared.machine.FoundSlot.{FoundSlot}
use Rattle.gimple_core.specs.Memory.{Memory, found_at, found_extent, found_offset, found_slot, put_slot, is_slot, same_object}
use Rattle.gimple_core.specs.State.{World, Scope, Setting, register_place, put_at}
use Rattle.gimple_core.specs.Run.{act, assign_result, loaded, stored, got}

-- a register got a value, perhaps one of the input; an output was printed; a slot that may be written got a value
pub data Acts (m : World) : World → Type 0 where
  assigns : (to : Option ℕ) (v : Value) → Acts m (record m { registers = put_at m.registers to v })
  takes : (to : Option ℕ) (v : Value) → Acts m (record m { registers = put_at m.registers to v; taken = m.taken + 1 })
  prints : (output : List ℕ) → Acts m (record m { output = output })
  stores : (at : Value) (scalar : Scalar) (v : Value) (f : FoundSlot) → found_at m.memory at scalar ≡ Ok f → f.constant ≡ false → Acts m (record m { memory = record m.memory { slots = put_slot m.memory.slots f.object f.offset scalar v } })

abbrev ActsTo : World → Result World TrapKind → Type 0
ActsTo m (Ok w) = Acts m w
ActsTo m (Err k) = Unit {0}

assigned_is : (scope : Scope) (m : World) (to : List ℕ) (r : Result Value TrapKind) → ActsTo m (assign_result scope m to r)
assigned_is scope m to (Ok v) = assigns (register_place scope.declared to) v
assigned_is scope m to (Err k) = tt

loaded_is : (scope : Scope) (m : World) (to : List ℕ) (r : Result FoundSlot TrapKind) → ActsTo m (loaded scope m to r)
loaded_is scope m to (Ok f) = assigns (register_place scope.declared to) f.value
loaded_is scope m to (Err k) = tt

stored_by : (m : World) (at : Value) (scalar : Scalar) (v : Value) (f : FoundSlot) → found_at m.memory at scalar ≡ Ok f → (b : Bool) → f.constant ≡ b → ActsTo m (if b then Err ReadOnly else Ok (record m { memory = record m.memory { slots = put_slot m.memory.slots f.object f.offset scalar v } }))
stored_by m at scalar v f e true c = tt
stored_by m at scalar v f e false c = stores at scalar v f e c

stored_is : (m : World) (at : Value) (scalar : Scalar) (v : Value) (r : Result FoundSlot TrapKind) → found_at m.memory at scalar ≡ r → ActsTo m (stored m scalar v r)
stored_is m at scalar v (Ok f) e = stored_by m at scalar v f e f.constant refl
stored_is m at scalar v (Err k) e = tt

got_is : (scope : Scope) (m : World) (to : List ℕ) (o : Option ℤ) → Acts m (got scope m to o)
got_is scope m to None = assigns (register_place scope.declared to) (Int (pos 0))
got_is scope m to (Some z) = takes (register_place scope.declared to) (Int z)

acted_is : (e : Setting) (scope : Scope) (x : Stmt) (m : World) → ActsTo m (act e scope x m)
unfolding act
acted_is e scope (Copy to from) m = assigns (register_place scope.declared to) _
acted_is e scope (Arith to left op right) m = assigned_is scope m to _
acted_is e scope (Compare to left cmp right) m = assigns (register_place scope.declared to) _
acted_is e scope (Convert to scalar from) m = assigns (register_place scope.declared to) _
acted_is e scope (Load to scalar place) m = loaded_is scope m to _
acted_is e scope (Store scalar place from) m = stored_is m _ scalar _ _ refl
acted_is e scope (Call to callee arguments) m = tt
acted_is e scope (Indirect to signature callee arguments) m = tt
acted_is e scope (Get to) m = got_is scope m to (slice_get m.input m.taken)
acted_is e scope (Put from) m = prints _
acted_is e scope Abort m = tt

pub acts_is : (e : Setting) (scope : Scope) (x : Stmt) (m w : World) → act e scope x m ≡ Ok w → Acts m w
acts_is e scope x m w h = subst (ActsTo m) h (acted_is e scope x m)

-- ---- what an access finds

pub record FoundOf (living : List Extent) (f : FoundSlot) : Type 0 where
  pub extent : Extent
  pub lives : find (λ x. same_object x.object f.object) living ≡ Some extent
  pub constant : extent.constant ≡ f.constant

abbrev FoundTo : List Extent → Result FoundSlot TrapKind → Type 0
FoundTo living (Ok f) = FoundOf living f
FoundTo living (Err k) = Unit {0}

slot_is : (living : List Extent) (object : Object) (offset : ℕ) (x : Extent) → find (λ y. same_object y.object object) living ≡ Some x → (o : Option MemorySlot) → FoundTo living (found_slot object offset x.constant o)
slot_is living object offset x e None = tt
slot_is living object offset x e (Some s) = record { extent = x; lives = e; constant = refl }

offset_by : (living : List Extent) (slots : List MemorySlot) (object : Object) (n : ℕ) (scalar : Scalar) (x : Extent) → find (λ y. same_object y.object object) living ≡ Some x → (b : Bool) →
    FoundTo living (if b then found_slot object n x.constant (find (is_slot object n scalar) slots) else Err Bounds)
offset_by living slots object n scalar x e true = slot_is living object n x e _
offset_by living slots object n scalar x e false = tt

offset_is : (living : List Extent) (slots : List MemorySlot) (object : Object) (z : ℤ) (scalar : Scalar) (x : Extent) → find (λ y. same_object y.object object) living ≡ Some x → FoundTo living (found_offset slots object z scalar x)
offset_is living slots object (pos n) scalar x e = offset_by living slots object n scalar x e (nat_lt n x.size)
offset_is living slots object (negsuc n) scalar x e = tt

extent_is : (living : List Extent) (slots : List MemorySlot) (object : Object) (z : ℤ) (scalar : Scalar) (o : Option Extent) → find (λ y. same_object y.object object) living ≡ o → FoundTo living (found_extent slots object z scalar o)
extent_is living slots object z scalar None e = tt
extent_is living slots object z scalar (Some x) e = offset_is living slots object z scalar x e

found_to : (m : Memory) (v : Value) (scalar : Scalar) → FoundTo m.living (found_at m v scalar)
unfolding found_at
found_to m (Int z) scalar = tt
found_to m Null scalar = tt
found_to m (Code name) scalar = tt
found_to m (At object offset) scalar = extent_is m.living m.slots object offset scalar _ refl

-- what an access finds is in a living object
pub found_lives : (m : Memory) (v : Value) (scalar : Scalar) (f : FoundSlot) → found_at m v scalar ≡ Ok f → FoundOf m.living f
found_lives m v scalar f e = subst (FoundTo m.living) e (found_to m v scalar)
