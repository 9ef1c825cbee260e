-- What slots hold after a store, and registers after an assignment: of any memory and any registers, in a run or not.
use Rattle.std.specs.Prelude.{◌≡◌, ℕ, pos, length, List, Some, option_map, Ok}
use Rattle.gimple_ir.specs.declared.scalar.Scalar.{Scalar}
use Rattle.gimple_ir.specs.declared.value.Value.{Value}
use Rattle.gimple_ir.specs.declared.value.Value.TheVariants.{At}
use Rattle.gimple_ir.specs.declared.value.Object.{Object}
use Rattle.gimple_core.specs.declared.machine.FoundSlot.{FoundSlot}
use Rattle.gimple_core.specs.Memory.{Memory, put_slot, found_at}
use Rattle.gimple_core.specs.State.{Scope, register_place, value_in, assigned}
use Rattle.gimple_claims.specs.Slots.{slot_value}

-- the memory after a store to a slot
abbrev pub with_slot : Memory → Object → ℕ → Scalar → Value → Memory
with_slot m object offset scalar v = record m { slots = put_slot m.slots object offset scalar v }

-- the slot holds what was stored, if it is there
abbrev pub StoredSlotsHold : Type 0
StoredSlotsHold = (m : Memory) (object : Object) (offset : ℕ) (scalar : Scalar) (v : Value) →
    slot_value object offset scalar (with_slot m object offset scalar v) ≡ option_map (λ (old : Value). v) (slot_value object offset scalar m)

-- each other slot holds what it held
abbrev pub OtherSlotsStay : Type 0
OtherSlotsStay = (m : Memory) (object : Object) (offset : ℕ) (scalar : Scalar) (v : Value) (other : Object) (place : ℕ) (kind : Scalar) → ((object ≡ other) × (offset ≡ place) × (scalar ≡ kind) → ⊥) →
    slot_value other place kind (with_slot m object offset scalar v) ≡ slot_value other place kind m

-- an access to the slot, which found something before, finds what was stored
abbrev pub StoredAccessesFind : Type 0
StoredAccessesFind = (m : Memory) (object : Object) (offset : ℕ) (scalar : Scalar) (v : Value) (x : FoundSlot) → found_at m (At object (pos offset)) scalar ≡ Ok x →
    found_at (with_slot m object offset scalar v) (At object (pos offset)) scalar ≡ Ok (record x { value = v })

-- an access through another pointer, or of another scalar, finds what it found
abbrev pub OtherAccessesFind : Type 0
OtherAccessesFind = (m : Memory) (object : Object) (offset : ℕ) (scalar : Scalar) (v pointer : Value) (kind : Scalar) → ((At object (pos offset) ≡ pointer) × (scalar ≡ kind) → ⊥) →
    found_at (with_slot m object offset scalar v) pointer kind ≡ found_at m pointer kind

-- a register that the frame has holds what was assigned to it
abbrev pub AssignedRegistersHold : Type 0
AssignedRegistersHold = (scope : Scope) (values : List Value) (name : List ℕ) (v : Value) (k : ℕ) → length values ≡ length scope.declared → register_place scope.declared name ≡ Some k →
    value_in scope (assigned scope values name v) name ≡ v

-- each other one holds what it held
abbrev pub OtherRegistersStay : Type 0
OtherRegistersStay = (scope : Scope) (values : List Value) (name other : List ℕ) (v : Value) → (name ≡ other → ⊥) →
    value_in scope (assigned scope values name v) other ≡ value_in scope values other

-- there are as many values as before
abbrev pub AssignmentsKeepCounts : Type 0
AssignmentsKeepCounts = (scope : Scope) (values : List Value) (name : List ℕ) (v : Value) → length (assigned scope values name v) ≡ length values
