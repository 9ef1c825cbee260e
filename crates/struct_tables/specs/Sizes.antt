-- Sizes of structs and variables, and what is kept of structs.
use Rattle.std.specs.Prelude.{◌≡◌, ◌≤◌, ◌<◌, ℕ, ◌+◌, max, List, [], ◌∷◌, ◌++◌, map, length, take, find, Option, Some, None, slice_get}
use Rattle.std.specs.Option.{option_map}
use Rattle.std.specs.Borrow.{Bor}
use Rattle.gimple_ir.specs.declared.scalar.Scalar.{Scalar}
use Rattle.gimple_ir.specs.declared.value.Layout.{Layout}
use Rattle.gimple_ir.specs.declared.value.LayoutSlot.{LayoutSlot}
use Rattle.gimple_ir.specs.declared.declarations.Decl.{Decl}
use Rattle.gimple_ir.specs.declared.declarations.StructDef.{StructDef}
use Rattle.gimple_core.specs.Layout.{KnownLayout}
use Rattle.gimple_core.specs.Layout.{empty_layout, moved, round_up, decl_layout, with_fields, struct_layouts, IsLayout}
use Rattle.std.specs.Str.{bytes_eq}
use Rattle.struct_tables.specs.declared.structs.Extent.{Extent}
use Rattle.struct_tables.specs.declared.structs.Kept.{Kept}

-- ---- sizes

-- the size and the alignment of a layout, and how many slots it has
abbrev pub extent_of : Layout → Extent
extent_of l = record { size = l.size; align = l.align; slots = length l.slots }

-- where a field lies that stands behind this many bytes
abbrev pub field_start : List KnownLayout → ℕ → Decl → ℕ
field_start known size f = round_up size (decl_layout known f).align

abbrev pub field_end : List KnownLayout → ℕ → Decl → ℕ
field_end known size f = field_start known size f + (decl_layout known f).size

-- with one more field
abbrev pub extent_with : List KnownLayout → Extent → Decl → Extent
extent_with known e f = record { size = field_end known e.size f; align = max e.align (decl_layout known f).align; slots = e.slots + length (decl_layout known f).slots }

-- up to the end of a struct whose fields end here
abbrev pub extent_rounded : Extent → Extent
extent_rounded e = record e { size = round_up e.size e.align }

-- with these fields, up to the end of the struct
abbrev pub extent_after : List KnownLayout → Extent → List Decl → Extent
extent_after known e [] = extent_rounded e
extent_after known e (f ∷ fs) = extent_after known (extent_with known e f) fs

-- the slots of fields that stand behind this many bytes
abbrev pub slots_after : List KnownLayout → ℕ → List Decl → List LayoutSlot
slots_after known size [] = []
slots_after known size (f ∷ fs) = moved (field_start known size f) (decl_layout known f).slots ++ slots_after known (field_end known size f) fs

-- where each of these fields begins, behind so many bytes
abbrev pub field_starts : List KnownLayout → ℕ → List Decl → List ℕ
field_starts known size [] = []
field_starts known size (f ∷ fs) = field_start known size f ∷ field_starts known (field_end known size f) fs

-- how many slots stand before each of these fields, behind so many slots
abbrev pub slots_before : List KnownLayout → ℕ → List Decl → List ℕ
slots_before known n [] = []
slots_before known n (f ∷ fs) = n ∷ slots_before known (n + length (decl_layout known f).slots) fs

-- an extent, and none where its size is above 2^24
abbrev pub IsBounded : Extent → Option Extent → Type 0
IsBounded whole None = 16777216 < whole.size
IsBounded whole (Some e) = (e ≡ whole) × (whole.size ≤ 16777216)

-- ---- structs

abbrev pub definitions : List (Bor (List ℕ) × Kept) → List StructDef
definitions es = map (λ e. e.1.definition.now) es

-- the layouts of the first structs
abbrev pub first_layouts : ℕ → List StructDef → List KnownLayout
first_layouts n ss = take n (struct_layouts [] ss)

-- the layout of a struct of a table: it has no more slots than bytes, and at most 2^24 bytes
pub record IsSolid (l : Layout) : Type 0 where
  pub lawful : IsLayout l
  pub dense : length l.slots ≤ l.size
  pub small : l.size ≤ 16777216

-- what is kept of a struct, under its name, behind these layouts
pub record IsKept (before : List KnownLayout) (e : Bor (List ℕ) × Kept) : Type 0 where
  pub name : e.0.now ≡ e.1.definition.now.name
  pub number : e.1.number ≡ length before
  pub extent : e.1.extent ≡ extent_of (with_fields before empty_layout e.1.definition.now.fields)
  pub small : (with_fields before empty_layout e.1.definition.now.fields).size ≤ 16777216
  pub offsets : e.1.starts.offsets.items ≡ field_starts before 0 e.1.definition.now.fields
  pub slots : e.1.starts.slots.items ≡ slots_before before 0 e.1.definition.now.fields

-- what is kept of structs behind these layouts
abbrev pub AreKept : List KnownLayout → List (Bor (List ℕ) × Kept) → Type 0
AreKept before [] = Unit {0}
AreKept before (e ∷ es) = IsKept before e × AreKept (before ++ record { name = e.1.definition.now.name; layout = with_fields before empty_layout e.1.definition.now.fields } ∷ []) es

-- what is kept of the first struct of a name among the first ones
abbrev pub IsFirst : List StructDef → ℕ → List ℕ → Option Kept → Type 0
IsFirst ss bound name None = find (λ k. bytes_eq k.name name) (first_layouts bound ss) ≡ None
IsFirst ss bound name (Some kept) = (kept.number < bound)
    × (find (λ k. bytes_eq k.name name) (first_layouts bound ss) ≡ Some (record { name = kept.definition.now.name; layout = with_fields (first_layouts kept.number ss) empty_layout kept.definition.now.fields }))
    × (kept.extent ≡ extent_of (with_fields (first_layouts kept.number ss) empty_layout kept.definition.now.fields))
    × (kept.starts.offsets.items ≡ field_starts (first_layouts kept.number ss) 0 kept.definition.now.fields)
    × (kept.starts.slots.items ≡ slots_before (first_layouts kept.number ss) 0 kept.definition.now.fields)

-- the scalar of a slot by its number
abbrev pub scalar_at : List LayoutSlot → ℕ → Option Scalar
scalar_at slots i = option_map (λ s. s.scalar) (slice_get slots i)
