-- Where the slots of a variable lie.
use Rattle.std.specs.Prelude.{◌≡◌, ◌≤◌, ◌<◌, ◌^◌, false, take, slice_get, find, ℕ, zero, suc, ◌+◌, ◌-◌, ◌*◌, ◌/◌, max, List, [], ◌∷◌, ◌++◌, map, Option, Some, None}
use Rattle.std.specs.List.{All, list_any}
use Rattle.gimple_ir.specs.declared.declarations.Shape.{Shape}
use Rattle.gimple_ir.specs.declared.declarations.Shape.TheVariants.{Plain, Named}
use Rattle.gimple_ir.specs.declared.declarations.Decl.{Decl}
use Rattle.gimple_ir.specs.declared.declarations.StructDef.{StructDef}
use Rattle.gimple_ir.specs.declared.value.LayoutSlot.{LayoutSlot}
use Rattle.gimple_ir.specs.declared.value.Layout.{Layout}
use Rattle.std.specs.Str.{bytes_eq}
use Rattle.gimple_core.specs.Operators.{bits_of}

abbrev pub empty_layout : Layout
empty_layout = record { size = 0; align = 1; slots = [] }

abbrev pub round_up : ℕ → ℕ → ℕ
round_up n align = (n + (align - 1)) / align * align

abbrev pub moved : ℕ → List LayoutSlot → List LayoutSlot
moved by slots = map (λ s. record { offset = by + s.offset; scalar = s.scalar }) slots

-- a struct's name with its layout
pub record KnownLayout : Type 0 where
  pub name : List ℕ
  pub layout : Layout

abbrev pub known_layout : Option KnownLayout → Layout
known_layout None = empty_layout
known_layout (Some k) = k.layout

abbrev pub shape_layout : List KnownLayout → Shape → Layout
shape_layout known (Plain scalar) = record { size = bits_of scalar / 8; align = bits_of scalar / 8; slots = record { offset = 0; scalar = scalar } ∷ [] }
shape_layout known (Named name) = known_layout (find (λ k. bytes_eq k.name name) known)

-- the slots of some elements in a row
abbrev pub repeated : ℕ → ℕ → List LayoutSlot → List LayoutSlot
repeated zero size slots = []
repeated (suc n) size slots = repeated n size slots ++ moved (n * size) slots

abbrev pub count_of : Option ℕ → ℕ
count_of None = 1
count_of (Some n) = n

abbrev pub array_layout : ℕ → Layout → Layout
array_layout n one = record { size = n * one.size; align = one.align; slots = repeated n one.size one.slots }

abbrev pub decl_layout : List KnownLayout → Decl → Layout
decl_layout known decl = array_layout (count_of decl.length) (shape_layout known decl.shape)

-- a layout with one more field at its end
abbrev pub with_field : Layout → Layout → Layout
with_field so_far field = let at = round_up so_far.size field.align in record { size = at + field.size; align = max so_far.align field.align; slots = so_far.slots ++ moved at field.slots }

abbrev pub with_fields : List KnownLayout → Layout → List Decl → Layout
with_fields known so_far [] = record so_far { size = round_up so_far.size so_far.align }
with_fields known so_far (f ∷ fs) = with_fields known (with_field so_far (decl_layout known f)) fs

-- the layouts of structs, after those that are known
abbrev pub struct_layouts : List KnownLayout → List StructDef → List KnownLayout
struct_layouts known [] = known
struct_layouts known (s ∷ ss) = struct_layouts (known ++ record { name = s.name; layout = with_fields known empty_layout s.fields } ∷ []) ss

unfoldable pub layout_of : List StructDef → Decl → Layout
layout_of structs decl = decl_layout (struct_layouts [] structs) decl

-- ---- the sizes that `layout_of` asks for

-- an alignment from 1 to 8, and slots that begin within the size
pub record IsLayout (l : Layout) : Type 0 where
  pub least : 1 ≤ l.align
  pub most : l.align ≤ 8
  pub slots : All (λ s. s.offset < l.size) l.slots

-- the struct behind these ones is not behind the first one of the shape's name
abbrev pub IsNeeded : List StructDef → Shape → Type 0
IsNeeded earlier (Plain scalar) = ⊥
IsNeeded earlier (Named name) = list_any (λ s. bytes_eq s.name name) earlier ≡ false

-- the size is at most 2 ^ 24, and so is that of the shape's struct and of each struct before it
pub record HasLayout (structs : List StructDef) (d : Decl) : Type 0 where
  pub size : (layout_of structs d).size ≤ 2 ^ 24
  pub before : (k : ℕ) (s : StructDef) → slice_get structs k ≡ Some s → IsNeeded (take k structs) d.shape → (with_fields (struct_layouts [] (take k structs)) empty_layout s.fields).size ≤ 2 ^ 24
