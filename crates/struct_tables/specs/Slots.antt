-- What stands at a place in a variable, and how much of the variable stands before it.
use Rattle.std.specs.Prelude.{◌≡◌, ◌≤◌, ◌<◌, ℕ, ◌+◌, ◌-◌, List, length, Option, Some, None, if◌then◌else◌, position, slice_get, slice_index_or, pos}
use Rattle.std.specs.Option.{option_map}
use Rattle.gimple_ir.specs.declared.scalar.Scalar.{Scalar}
use Rattle.gimple_ir.specs.declared.value.Layout.{Layout}
use Rattle.gimple_ir.specs.declared.value.LayoutSlot.{LayoutSlot}
use Rattle.gimple_ir.specs.declared.declarations.Decl.{Decl}
use Rattle.gimple_ir.specs.declared.declarations.StructDef.{StructDef}
use Rattle.gimple_core.specs.Layout.{decl_layout}
use Rattle.gimple_core.specs.Memory.{same_scalar}
use Rattle.gimple_core.specs.Statements.{is_slot_at}
use Rattle.struct_tables.specs.Sizes.{first_layouts}
use Rattle.struct_tables.specs.declared.slots.Part.{Part}
use Rattle.struct_tables.specs.declared.slots.Part.TheVariants.{Slot, Nothing, Field}

-- ---- the last field that begins at a place or before it

-- the field of this number is that one, the rest is the way from where it begins, and so much of the other count stands before it
pub record IsLastFrom (fields : List Decl) (starts others : List ℕ) (ahead place : ℕ) (field : Decl) (before rest : ℕ) (k : ℕ) : Type 0 where
  pub within : k < length starts
  pub field_is : (d : Decl) → field ≡ slice_index_or fields k d
  pub before_is : (d : ℕ) → before ≡ ahead + slice_index_or others k d
  pub begun : (d : ℕ) → slice_index_or starts k d ≤ place
  pub rest_is : (d : ℕ) → rest ≡ place - slice_index_or starts k d
  pub later : (i d : ℕ) → k < i → i < length starts → place < slice_index_or starts i d

-- that field, of the struct of a number
abbrev pub IsPartFrom : List Decl → List ℕ → List ℕ → ℕ → ℕ → ℕ → Part → Type 0
IsPartFrom fields starts others own ahead place (Slot scalar before) = ⊥
IsPartFrom fields starts others own ahead place Nothing = (i d : ℕ) → i < length starts → place < slice_index_or starts i d
IsPartFrom fields starts others own ahead place (Field number field before rest) = (number ≡ own) × ((k : ℕ) × IsLastFrom fields starts others ahead place field.now before rest k)

-- ---- a slot by its offset

-- a number behind so many
abbrev pub counted_from : ℕ → Option ℕ → Option ℕ
counted_from ahead o = option_map (λ n. ahead + n) o

-- the number of the first slot of an offset and scalar
abbrev pub number_at : List LayoutSlot → ℕ → Scalar → Option ℕ
number_at slots o scalar = position (is_slot_at (pos o) scalar) slots

abbrev pub if_same : Scalar → Scalar → ℕ → Option ℕ
if_same own scalar before = if same_scalar own scalar then Some before else None

-- whether the number of the slot at an offset, behind so many, is that of what was found there, where structs of a number and later ones are not looked at
abbrev pub OffsetLeadsTo : List StructDef → List LayoutSlot → ℕ → ℕ → ℕ → Part → Type 0
OffsetLeadsTo ss slots ahead o bound (Slot own before) = (scalar : Scalar) → counted_from ahead (number_at slots o scalar) ≡ if_same own scalar before
OffsetLeadsTo ss slots ahead o bound Nothing = (scalar : Scalar) → number_at slots o scalar ≡ None
OffsetLeadsTo ss slots ahead o bound (Field number field before rest) =
    (number < bound) × (before + length (decl_layout (first_layouts number ss) field.now).slots ≤ ahead + length slots)
    × ((scalar : Scalar) → counted_from ahead (number_at slots o scalar) ≡ counted_from before (number_at (decl_layout (first_layouts number ss) field.now).slots rest scalar))

-- ---- a slot by its number

-- a slot behind so many bytes
abbrev pub placed_from : ℕ → Option LayoutSlot → Option LayoutSlot
placed_from ahead o = option_map (λ s. record { offset = ahead + s.offset; scalar = s.scalar }) o

-- whether the slot of a number, behind so many bytes, is that of what was found there
abbrev pub NumberLeadsTo : List StructDef → Layout → ℕ → ℕ → ℕ → Part → Type 0
NumberLeadsTo ss l ahead i bound (Slot own before) = placed_from ahead (slice_get l.slots i) ≡ Some (record { offset = before; scalar = own })
NumberLeadsTo ss l ahead i bound Nothing = slice_get l.slots i ≡ None
NumberLeadsTo ss l ahead i bound (Field number field before rest) =
    (number < bound) × (before + (decl_layout (first_layouts number ss) field.now).size ≤ ahead + l.size)
    × (placed_from ahead (slice_get l.slots i) ≡ placed_from before (slice_get (decl_layout (first_layouts number ss) field.now).slots rest))

-- an offset and a scalar as a slot
abbrev pub as_slot : Option (ℕ × Scalar) → Option LayoutSlot
as_slot o = option_map (λ p. record { offset = p.0; scalar = p.1 }) o
