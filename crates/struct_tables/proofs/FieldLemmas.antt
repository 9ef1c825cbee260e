-- Slots of fields that lie one behind the other.
use Rattle.std.proofs.Common.{◌≡◌, ℕ, zero, suc, ◌<◌, ◌≤◌, ◌==◌, false, List, [], ◌∷◌, ◌++◌, length, find, get_or, Some, refl, sym, ◌∙◌, ap, arith, pos, append_assoc, append-nil}
use Rattle.std.specs.List.{All}
use Rattle.std.specs.List.Sorted.{IsNonDecreasing}
use Rattle.std.proofs.lemmas.List.Folds.{list_any-append}
use Rattle.gimple_ir.specs.declared.scalar.Scalar.{Scalar}
use Rattle.gimple_ir.specs.declared.declarations.Decl.{Decl}
use Rattle.gimple_ir.specs.declared.declarations.Shape.{Shape}
use Rattle.gimple_ir.specs.declared.declarations.Shape.TheVariants.{Plain, Named}
use Rattle.gimple_ir.specs.declared.declarations.StructDef.{StructDef}
use Rattle.std.specs.Str.{bytes_eq}
use Rattle.gimple_ir.specs.declared.value.Layout.{Layout}
use Rattle.gimple_core.specs.Layout.{KnownLayout}
use Rattle.gimple_core.specs.Layout.{empty_layout, moved, known_layout, shape_layout, decl_layout, with_field, with_fields, IsLayout}
use Rattle.gimple_core.specs.Statements.{is_slot_at, has_slot}
use Rattle.gimple_core.proofs.LayoutLemmas.{round_up-least, decl_is}
use Rattle.struct_tables.specs.Sizes.{field_start, field_end, field_starts, slots_after}
use Rattle.struct_tables.proofs.SizeLemmas.{has_before_moved}

-- the slots of a struct, field by field
pub slots_are : (known : List KnownLayout) (fs : List Decl) (l : Layout) → (with_fields known l fs).slots ≡ l.slots ++ slots_after known l.size fs
slots_are known [] l = sym (append-nil l.slots)
slots_are known (f ∷ fs) l =
    slots_are known fs (with_field l (decl_layout known f))
    ∙ append_assoc l.slots (moved (field_start known l.size f) (decl_layout known f).slots) (slots_after known (field_end known l.size f) fs)

pub start_least : (known : List KnownLayout) (size : ℕ) (f : Decl) → All (λ k. IsLayout k.layout) known → size ≤ field_start known size f
start_least known size f h = round_up-least size (decl_layout known f).align (decl_is known f h).least

-- no slot lies before the fields
pub none_before : (known : List KnownLayout) (fs : List Decl) (size o : ℕ) (scalar : Scalar) → All (λ k. IsLayout k.layout) known → o < size → has_slot (slots_after known size fs) (pos o) scalar ≡ false
none_before known [] size o scalar h l = refl
none_before known (f ∷ fs) size o scalar h l =
    let up : size ≤ field_start known size f = start_least known size f h in
    let a : o < field_start known size f = omega (arith, l, up) in
    let b : o < field_end known size f = omega (arith, a) in
    list_any-append (is_slot_at (pos o) scalar) (moved (field_start known size f) (decl_layout known f).slots) (slots_after known (field_end known size f) fs)
    ∙ rw (has_before_moved (field_start known size f) o (decl_layout known f).slots scalar a) (none_before known fs (field_end known size f) o scalar h b)

-- an offset in the gap before a field
pub in_gap : (known : List KnownLayout) (f : Decl) (fs : List Decl) (size o : ℕ) (scalar : Scalar) → All (λ k. IsLayout k.layout) known → o < field_start known size f → has_slot (slots_after known size (f ∷ fs)) (pos o) scalar ≡ false
in_gap known f fs size o scalar h a =
    let b : o < field_end known size f = omega (arith, a) in
    list_any-append (is_slot_at (pos o) scalar) (moved (field_start known size f) (decl_layout known f).slots) (slots_after known (field_end known size f) fs)
    ∙ rw (has_before_moved (field_start known size f) o (decl_layout known f).slots scalar a) (none_before known fs (field_end known size f) o scalar h b)

-- ---- where the fields begin

pub starts_length : (known : List KnownLayout) (fs : List Decl) (size : ℕ) → length (field_starts known size fs) ≡ length fs
starts_length known [] size = refl
starts_length known (f ∷ fs) size = ap suc (starts_length known fs (field_end known size f))

pub starts_ahead : (known : List KnownLayout) (fs : List Decl) (size i d : ℕ) → All (λ k. IsLayout k.layout) known → i < length (field_starts known size fs) → size ≤ get_or (field_starts known size fs) i d
starts_ahead known [] size i d h l = absurd (omega (arith, l))
starts_ahead known (f ∷ fs) size zero d h l = start_least known size f h
starts_ahead known (f ∷ fs) size (suc i) d h l =
    let up : size ≤ field_start known size f = start_least known size f h in
    let m : i < length (field_starts known (field_end known size f) fs) = omega (arith, l) in
    let more : field_end known size f ≤ get_or (field_starts known (field_end known size f) fs) i d = starts_ahead known fs (field_end known size f) i d h m in
    omega (arith, up, more)

pub starts_ascend : (known : List KnownLayout) (fs : List Decl) (size : ℕ) → All (λ k. IsLayout k.layout) known → IsNonDecreasing (field_starts known size fs)
starts_ascend known [] size h i j d l m = absurd (omega (arith, m))
starts_ascend known (f ∷ fs) size h zero zero d l m = omega arith
starts_ascend known (f ∷ fs) size h zero (suc j) d l m =
    let n : j < length (field_starts known (field_end known size f) fs) = omega (arith, m) in
    let more : field_end known size f ≤ get_or (field_starts known (field_end known size f) fs) j d = starts_ahead known fs (field_end known size f) j d h n in
    omega (arith, more)
starts_ascend known (f ∷ fs) size h (suc i) zero d l m = absurd (omega (arith, l))
starts_ascend known (f ∷ fs) size h (suc i) (suc j) d l m = starts_ascend known fs (field_end known size f) h i j d (omega (arith, l)) (omega (arith, m))

-- fields that all begin behind an offset
pub none_at : (known : List KnownLayout) (fs : List Decl) (size o : ℕ) (scalar : Scalar) → All (λ k. IsLayout k.layout) known → ((d : ℕ) → 0 < length (field_starts known size fs) → o < get_or (field_starts known size fs) 0 d) →
    has_slot (slots_after known size fs) (pos o) scalar ≡ false
none_at known [] size o scalar h first = refl
none_at known (f ∷ fs) size o scalar h first = in_gap known f fs size o scalar h (first 0 (omega arith))

-- ---- the slots of one element

other_zero : (z : ℕ) → 0 < z → (0 == z) ≡ false
other_zero z l = grind arith

no_slot : (own : Scalar) (z : ℕ) (scalar : Scalar) → 0 < z → has_slot (record { offset = 0; scalar = own } ∷ []) (pos z) scalar ≡ false
no_slot own z scalar l = rw (other_zero z l) refl

pub plain_not : (known : List KnownLayout) (shape : Shape) (own : Scalar) (z : ℕ) (scalar : Scalar) → shape ≡ Plain own → 0 < z → has_slot (shape_layout known shape).slots (pos z) scalar ≡ false
plain_not known shape own z scalar e l = ap (λ s. has_slot (shape_layout known s).slots (pos z) scalar) e ∙ no_slot own z scalar l

-- the layout of an element that is a struct
pub named_layout : (known before : List KnownLayout) (shape : Shape) (name : List ℕ) (s : StructDef) → shape ≡ Named name
    → find (λ k. bytes_eq k.name name) known ≡ Some (record { name = s.name; layout = with_fields before empty_layout s.fields }) → shape_layout known shape ≡ with_fields before empty_layout s.fields
named_layout known before shape name s e f = ap (shape_layout known) e ∙ ap known_layout f
