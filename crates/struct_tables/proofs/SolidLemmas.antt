-- Layouts and extents of the structs of a table.
use Rattle.std.proofs.Common.{◌≡◌, ℕ, ◌+◌, ◌*◌, ◌<◌, ◌≤◌, ◌^◌, Bool, true, false, if◌then◌else◌, List, [], ◌∷◌, ◌++◌, length, max, find, Option, Some, refl, ◌∙◌, ap, subst, arith, Bor, get_or}
use Rattle.std.specs.List.{All}
use Rattle.std.proofs.lemmas.List.{length-append}
use Rattle.std.proofs.lemmas.List.Elements.{All-nil, All-cons, All-append, All-weaker, All-head, All-tail, All-take}
use Rattle.gimple_ir.specs.declared.declarations.Decl.{Decl}
use Rattle.gimple_ir.specs.declared.declarations.Shape.{Shape}
use Rattle.gimple_ir.specs.declared.declarations.Shape.TheVariants.{Plain, Named}
use Rattle.gimple_ir.specs.declared.declarations.StructDef.{StructDef}
use Rattle.gimple_ir.specs.declared.scalar.Scalar.{Scalar}
use Rattle.gimple_ir.specs.declared.scalar.Scalar.TheVariants.{I8, I16, I32, I64, U8, U16, U32, U64, Ptr}
use Rattle.gimple_ir.specs.declared.value.Layout.{Layout}
use Rattle.gimple_core.specs.Layout.{KnownLayout}
use Rattle.gimple_core.specs.Layout.{empty_layout, round_up, moved, known_layout, shape_layout, count_of, decl_layout, with_field, with_fields, struct_layouts, IsLayout}
use Rattle.std.specs.Str.{bytes_eq}
use Rattle.gimple_core.proofs.LayoutLemmas.{entry, round_up-least, empty_is, plain_is, decl_is, field_is, fields_is}
use Rattle.struct_tables.specs.Sizes.{extent_of, extent_after, extent_rounded, extent_with, field_start, field_end, definitions, first_layouts, IsSolid, IsKept, AreKept}
use Rattle.struct_tables.specs.declared.structs.Extent.{Extent}
use Rattle.struct_tables.specs.declared.structs.Kept.{Kept}
use Rattle.struct_tables.proofs.SizeLemmas.{moved_length, repeated_length}

abbrev pub Solid : KnownLayout → Type 0
Solid k = IsSolid k.layout

pub lawful_all : (known : List KnownLayout) → All Solid known → All (λ k. IsLayout k.layout) known
lawful_all known h = All-weaker Solid (λ k. IsLayout k.layout) (λ k s. s.lawful) known h

plain_solid : (known : List KnownLayout) (scalar : Scalar) → IsSolid (shape_layout known (Plain scalar))
plain_solid known I8 = record { lawful = plain_is known I8; dense = omega arith; small = omega arith }
plain_solid known I16 = record { lawful = plain_is known I16; dense = omega arith; small = omega arith }
plain_solid known I32 = record { lawful = plain_is known I32; dense = omega arith; small = omega arith }
plain_solid known I64 = record { lawful = plain_is known I64; dense = omega arith; small = omega arith }
plain_solid known U8 = record { lawful = plain_is known U8; dense = omega arith; small = omega arith }
plain_solid known U16 = record { lawful = plain_is known U16; dense = omega arith; small = omega arith }
plain_solid known U32 = record { lawful = plain_is known U32; dense = omega arith; small = omega arith }
plain_solid known U64 = record { lawful = plain_is known U64; dense = omega arith; small = omega arith }
plain_solid known Ptr = record { lawful = plain_is known Ptr; dense = omega arith; small = omega arith }

empty_solid : IsSolid empty_layout
empty_solid = record { lawful = empty_is; dense = omega arith; small = omega arith }

found_of : (x : KnownLayout) (o : Option KnownLayout) (b : Bool) → IsSolid x.layout → IsSolid (known_layout o) → IsSolid (known_layout (if b then Some x else o))
found_of x o true h more = h
found_of x o false h more = more

found_solid : (test : KnownLayout → Bool) (known : List KnownLayout) → All Solid known → IsSolid (known_layout (find test known))
found_solid test [] h = empty_solid
found_solid test (x ∷ xs) h = found_of x (find test xs) (test x) (All-head Solid x xs h) (found_solid test xs (All-tail Solid x xs h))

pub shape_solid : (known : List KnownLayout) (shape : Shape) → All Solid known → IsSolid (shape_layout known shape)
shape_solid known (Plain scalar) h = plain_solid known scalar
shape_solid known (Named name) h = found_solid (λ k. bytes_eq k.name name) known h

-- ---- no more slots than bytes

pub decl_dense : (known : List KnownLayout) (d : Decl) → All Solid known → length (decl_layout known d).slots ≤ (decl_layout known d).size
decl_dense known d h =
    let s : length (shape_layout known d.shape).slots ≤ (shape_layout known d.shape).size = (shape_solid known d.shape h).dense in
    let e = repeated_length (count_of d.length) (shape_layout known d.shape).size (shape_layout known d.shape).slots in
    let p : count_of d.length * length (shape_layout known d.shape).slots ≤ count_of d.length * (shape_layout known d.shape).size = grind (arith, s) in
    omega (arith, e, p)

fields_dense : (known : List KnownLayout) (fs : List Decl) (l : Layout) → All Solid known → IsLayout l → length l.slots ≤ l.size → length (with_fields known l fs).slots ≤ (with_fields known l fs).size
fields_dense known [] l h k d = let up : l.size ≤ round_up l.size l.align = round_up-least l.size l.align k.least in omega (arith, d, up)
fields_dense known (f ∷ fs) l h k d =
    let own : IsLayout (decl_layout known f) = decl_is known f (lawful_all known h) in
    let at : ℕ = round_up l.size (decl_layout known f).align in
    let up : l.size ≤ at = round_up-least l.size (decl_layout known f).align own.least in
    let e = length-append l.slots (moved at (decl_layout known f).slots) in
    let m = moved_length at (decl_layout known f).slots in
    let s : length (decl_layout known f).slots ≤ (decl_layout known f).size = decl_dense known f h in
    let n : length (with_field l (decl_layout known f)).slots ≤ (with_field l (decl_layout known f)).size = omega (arith, d, up, e, m, s) in
    fields_dense known fs (with_field l (decl_layout known f)) h (field_is l (decl_layout known f) k own) n

kept_solid : (before : List KnownLayout) (e : Bor (List ℕ) × Kept) → All Solid before → IsKept before e → IsSolid (with_fields before empty_layout e.1.definition.now.fields)
kept_solid before e h k = record {
  lawful = fields_is before e.1.definition.now.fields empty_layout (lawful_all before h) empty_is;
  dense = fields_dense before e.1.definition.now.fields empty_layout h empty_is (omega arith);
  small = k.small;
}

layouts_solid : (before : List KnownLayout) (es : List (Bor (List ℕ) × Kept)) → All Solid before → AreKept before es → All Solid (struct_layouts before (definitions es))
layouts_solid before [] h k = h
layouts_solid before (e ∷ es) h k =
    layouts_solid (before ++ entry before e.1.definition.now ∷ []) es
    (All-append Solid before (entry before e.1.definition.now ∷ []) h (All-cons Solid (entry before e.1.definition.now) [] (kept_solid before e h k.0) (All-nil Solid))) k.1

-- the layouts of the structs that are kept
pub kept_layouts : (es : List (Bor (List ℕ) × Kept)) (ss : List StructDef) → definitions es ≡ ss → AreKept [] es → All Solid (struct_layouts [] ss)
kept_layouts es ss e k = subst (λ s. All Solid (struct_layouts [] s)) e (layouts_solid [] es (All-nil Solid) k)

pub first_solid : (es : List (Bor (List ℕ) × Kept)) (ss : List StructDef) (bound : ℕ) → definitions es ≡ ss → AreKept [] es → All Solid (first_layouts bound ss)
first_solid es ss bound e k = All-take Solid bound (struct_layouts [] ss) (kept_layouts es ss e k)

-- ---- extents of structs

pub extent_is : (known : List KnownLayout) (fs : List Decl) (l : Layout) → extent_of (with_fields known l fs) ≡ extent_after known (extent_of l) fs
extent_is known [] l = refl
extent_is known (f ∷ fs) l =
    extent_is known fs (with_field l (decl_layout known f)) ∙ ap (λ e. extent_after known e fs) (more_slots (length-append l.slots (moved (round_up l.size (decl_layout known f).align) (decl_layout known f).slots)
    ∙ ap (λ n. length l.slots + n) (moved_length (round_up l.size (decl_layout known f).align) (decl_layout known f).slots)))
  where
    with_slots : ℕ → Extent
    with_slots n = record { size = field_end known l.size f; align = max l.align (decl_layout known f).align; slots = n }

    more_slots : {a b : ℕ} → a ≡ b → with_slots a ≡ with_slots b
    more_slots e = ap with_slots e

-- behind the last field
pub extent_done : (known : List KnownLayout) (e : Extent) (fs : List Decl) → length fs < 1 → extent_rounded e ≡ extent_after known e fs
extent_done known e [] h = refl
extent_done known e (f ∷ fs) h = let z : ⊥ = omega (arith, h) in absurd z

-- sizes only grow
pub extent_grows : (known : List KnownLayout) (e : Extent) (fs : List Decl) → All (λ k. IsLayout k.layout) known → 1 ≤ e.align → e.size ≤ (extent_after known e fs).size
extent_grows known e [] h l = round_up-least e.size e.align l
extent_grows known e (f ∷ fs) h l =
    let up : e.size ≤ field_start known e.size f = round_up-least e.size (decl_layout known f).align (decl_is known f h).least in
    let more = extent_grows known (extent_with known e f) fs h (omega (arith, l)) in
    omega (arith, up, more)

-- a field that ends behind a number, and the struct with it
pub extent_above : (known : List KnownLayout) (e : Extent) (fs : List Decl) (f : Decl) (n : ℕ) → All (λ k. IsLayout k.layout) known → 1 ≤ e.align → 1 ≤ length fs → f ≡ get_or fs 0 f → n < (extent_with known e f).size → n < (extent_after known e fs).size
extent_above known e [] f n h l some is above = absurd (omega (arith, some))
extent_above known e (x ∷ fs) f n h l some is above =
    let large : n < (extent_with known e x).size = subst (λ y. n < (extent_with known e y).size) is above in
    let more = extent_grows known (extent_with known e x) fs h (omega (arith, l)) in
    omega (arith, large, more)

-- ---- how large a variable is at most

pub small_size : (known : List KnownLayout) (d : Decl) → All Solid known → count_of d.length < 2 ^ 64 → (decl_layout known d).size < 2 ^ 127
small_size known d h k =
    let m : (shape_layout known d.shape).size ≤ 16777216 = (shape_solid known d.shape h).small in
    let p : count_of d.length * (shape_layout known d.shape).size ≤ count_of d.length * 16777216 = grind (arith, m) in
    omega (arith, p, k)

pub few_slots : (known : List KnownLayout) (d : Decl) → All Solid known → count_of d.length < 2 ^ 64 → length (decl_layout known d).slots < 2 ^ 127
few_slots known d h k =
    let s : length (shape_layout known d.shape).slots ≤ (shape_layout known d.shape).size = (shape_solid known d.shape h).dense in
    let m : (shape_layout known d.shape).size ≤ 16777216 = (shape_solid known d.shape h).small in
    let e = repeated_length (count_of d.length) (shape_layout known d.shape).size (shape_layout known d.shape).slots in
    let n : length (shape_layout known d.shape).slots ≤ 16777216 = omega (arith, s, m) in
    let p : count_of d.length * length (shape_layout known d.shape).slots ≤ count_of d.length * 16777216 = grind (arith, n) in
    omega (arith, e, p, k)
