-- Memory made of typed slots.
use Rattle.std.specs.Prelude.{find, ℕ, ◌==◌, ℤ, pos, negsuc, ◌+ℤ◌, Bool, true, false, not, ◌&&◌, if◌then◌else◌, List, filter, Option, Some, None, Result, Ok, Err, nat_lt}
use Rattle.gimple_ir.specs.declared.scalar.Scalar.{Scalar}
use Rattle.gimple_ir.specs.declared.scalar.Scalar.TheVariants.{I8, I16, I32, I64, U8, U16, U32, U64, Ptr}
use Rattle.gimple_ir.specs.declared.value.Object.{Object}
use Rattle.gimple_ir.specs.declared.value.Object.TheVariants.{Global, Local}
use Rattle.gimple_ir.specs.declared.value.Value.{Value}
use Rattle.gimple_ir.specs.declared.value.Value.TheVariants.{Int, Null, At, Code}
use Rattle.gimple_ir.specs.declared.value.TrapKind.{TrapKind}
use Rattle.gimple_ir.specs.declared.value.TrapKind.TheVariants.{NullAccess, Dangling, Bounds, BadSlot}
use Rattle.gimple_core.specs.declared.machine.MemorySlot.{MemorySlot}
use Rattle.gimple_core.specs.declared.machine.Extent.{Extent}
use Rattle.gimple_core.specs.declared.machine.FoundSlot.{FoundSlot}
use Rattle.gimple_core.specs.Names.{update_first}
use Rattle.gimple_core.specs.Operators.{wrapped}

-- the living objects, and what their slots hold
pub record Memory : Type 0 where
  pub living : List Extent
  pub slots : List MemorySlot

abbrev pub number_of : Scalar → ℕ
number_of I8 = 0
number_of I16 = 1
number_of I32 = 2
number_of I64 = 3
number_of U8 = 4
number_of U16 = 5
number_of U32 = 6
number_of U64 = 7
number_of Ptr = 8

abbrev pub same_scalar : Scalar → Scalar → Bool
same_scalar a b = number_of a == number_of b

abbrev pub same_object : Object → Object → Bool
same_object (Global k) (Global j) = k == j
same_object (Global k) (Local s j) = false
same_object (Local s k) (Global j) = false
same_object (Local s k) (Local t j) = (s == t) && (k == j)

-- a pointer moved by some bytes, modulo 2^64; nothing else moves
unfoldable pub moved_by : Value → ℤ → Value
moved_by (Int z) by = Int z
moved_by Null by = Null
moved_by (At object offset) by = At object (wrapped I64 (offset +ℤ by))
moved_by (Code name) by = Code name

-- the slot of an object with this offset and scalar
abbrev pub is_slot : Object → ℕ → Scalar → MemorySlot → Bool
is_slot object offset scalar s = same_object s.object object && (s.offset == offset) && same_scalar s.scalar scalar

abbrev pub found_slot : Object → ℕ → Bool → Option MemorySlot → Result FoundSlot TrapKind
found_slot object offset constant None = Err BadSlot
found_slot object offset constant (Some s) = Ok (record { object = object; offset = offset; value = s.value; constant = constant })

abbrev pub found_offset : List MemorySlot → Object → ℤ → Scalar → Extent → Result FoundSlot TrapKind
found_offset slots object (negsuc n) scalar x = Err Bounds
found_offset slots object (pos n) scalar x =
    if nat_lt n x.size then found_slot object n x.constant (find (is_slot object n scalar) slots) else Err Bounds

abbrev pub found_extent : List MemorySlot → Object → ℤ → Scalar → Option Extent → Result FoundSlot TrapKind
found_extent slots object offset scalar None = Err Dangling
found_extent slots object offset scalar (Some x) = found_offset slots object offset scalar x

-- an access of a scalar through a pointer; a number is no pointer, and a function has no slots
unfoldable pub found_at : Memory → Value → Scalar → Result FoundSlot TrapKind
found_at memory (Int z) scalar = Err NullAccess
found_at memory Null scalar = Err NullAccess
found_at memory (Code name) scalar = Err BadSlot
found_at memory (At object offset) scalar =
    found_extent memory.slots object offset scalar (find (λ x. same_object x.object object) memory.living)

-- a value put into a slot
abbrev pub put_slot : List MemorySlot → Object → ℕ → Scalar → Value → List MemorySlot
put_slot slots object offset scalar value = update_first (is_slot object offset scalar) (λ s. record s { value = value }) slots

-- an object of other frames than this one, or a global
abbrev pub is_elsewhere : ℕ → Object → Bool
is_elsewhere serial (Global k) = true
is_elsewhere serial (Local s k) = not (s == serial)

-- the memory after a frame has returned
unfoldable pub without_frame : ℕ → Memory → Memory
without_frame serial m = record { living = filter (λ x. is_elsewhere serial x.object) m.living; slots = filter (λ s. is_elsewhere serial s.object) m.slots }
