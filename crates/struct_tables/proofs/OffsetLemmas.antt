-- The number of the first slot of an offset and scalar.
use Rattle.std.proofs.Common.{◌≡◌, ℕ, zero, suc, ◌+◌, ◌-◌, ◌*◌, ◌/◌, ◌%◌, ◌<◌, ◌≤◌, nat_lt, Bool, true, false, cond, not, ◌&&◌, ◌||◌, if◌then◌else◌, List, [], ◌∷◌, ◌++◌, length, get_or, is_some, Option, Some, None, refl, sym, subst, ◌∙◌, ap, arith, ℤ, pos, negsuc, nat_abs, ◌<ℤ◌, ◌≤ℤ◌, ◌^◌, ⊎_elim}
use Rattle.std.specs.List.{All, position, position_or_len, list_any}
use Rattle.std.specs.Option.{option_or}
use Rattle.std.proofs.lemmas.Bool.{cases_lt}
use Rattle.std.proofs.lemmas.Int.{ints}
use Rattle.std.proofs.lemmas.List.{length-append}
use Rattle.std.proofs.lemmas.List.Quantifiers.{position-Some}
use Rattle.gimple_ir.specs.declared.scalar.Scalar.{Scalar}
use Rattle.gimple_ir.specs.declared.declarations.Decl.{Decl}
use Rattle.gimple_ir.specs.declared.declarations.Shape.{Shape}
use Rattle.gimple_ir.specs.declared.declarations.Shape.TheVariants.{Plain}
use Rattle.gimple_ir.specs.declared.declarations.StructDef.{StructDef}
use Rattle.gimple_ir.specs.declared.value.Layout.{Layout}
use Rattle.gimple_ir.specs.declared.value.LayoutSlot.{LayoutSlot}
use Rattle.gimple_core.specs.Layout.{KnownLayout}
use Rattle.gimple_core.specs.Layout.{empty_layout, moved, repeated, shape_layout, decl_layout, with_fields, IsLayout}
use Rattle.gimple_core.specs.Memory.{same_scalar}
use Rattle.gimple_core.specs.Statements.{is_slot_at, has_slot}
use Rattle.gimple_core.proofs.LayoutLemmas.{decl_is}
use Rattle.struct_tables.specs.Sizes.{field_start, field_end, field_starts, slots_after, slots_before, first_layouts}
use Rattle.struct_tables.specs.Slots.{counted_from, number_at, if_same, IsLastFrom, IsPartFrom, OffsetLeadsTo}
use Rattle.struct_tables.specs.declared.slots.Part.{Part}
use Rattle.struct_tables.specs.declared.slots.Part.TheVariants.{Slot, Nothing, Field}
use Rattle.struct_tables.proofs.FieldLemmas.{slots_are, none_at, starts_ahead, starts_length, plain_not}
use Rattle.struct_tables.proofs.SolidLemmas.{Solid, decl_dense}
use Rattle.struct_tables.proofs.SizeLemmas.{has_negative, same_place, has_moved, has_before_moved, has_outside, has_behind, in_element, in_number, element_fits, moved_length, repeated_length}

-- ---- positions

module _ {X : Type 0} (p : X → Bool) where
  position_cons : (x : X) (xs : List X) → position p (x ∷ xs) ≡ cond (p x) (Some 0) (counted_from 1 (position p xs))
  position_cons x xs = by (p x) (position_or_len p xs) (length xs)
    where
      by : (b : Bool) (l n : ℕ) → cond (nat_lt (cond (not b) (1 + l) 0) (suc n)) (Some (cond (not b) (1 + l) 0)) None ≡ cond b (Some 0) (counted_from 1 (cond (nat_lt l n) (Some l) None))
      by true l n = grind arith
      by false l n = grind arith

pub counted_all : (o : Option ℕ) → counted_from 0 o ≡ o
counted_all None = refl
counted_all (Some n) = ap Some (omega arith)

pub counted_more : (a b : ℕ) (o : Option ℕ) → counted_from a (counted_from b o) ≡ counted_from (a + b) o
counted_more a b None = refl
counted_more a b (Some n) = ap Some (omega arith)

pub or_none : (o : Option ℕ) → option_or o None ≡ o
or_none None = refl
or_none (Some n) = refl

module _ {X : Type 0} (p : X → Bool) where
  position_append : (xs ys : List X) → position p (xs ++ ys) ≡ option_or (position p xs) (counted_from (length xs) (position p ys))
  position_append [] ys = sym (counted_all (position p ys))
  position_append (x ∷ xs) ys =
      position_cons p x (xs ++ ys) ∙ ap (λ o. cond (p x) (Some 0) (counted_from 1 o)) (position_append xs ys)
      ∙ by (p x) (position p xs) (length xs) (position p ys)
      ∙ ap (λ o. option_or o (counted_from (suc (length xs)) (position p ys))) (sym (position_cons p x xs))
    where
      by : (b : Bool) (o : Option ℕ) (n : ℕ) (r : Option ℕ) → cond b (Some 0) (counted_from 1 (option_or o (counted_from n r))) ≡ option_or (cond b (Some 0) (counted_from 1 o)) (counted_from (suc n) r)
      by true o n r = refl
      by false (Some k) n r = refl
      by false None n r = counted_more 1 n r ∙ ap (λ k. counted_from k r) (omega arith)

  no_position : (xs : List X) → list_any p xs ≡ false → position p xs ≡ None
  no_position [] h = refl
  no_position (x ∷ xs) h =
      position_cons p x xs ∙ by (p x) (list_any p xs) (position p xs) h (no_position xs)
    where
      by : (b c : Bool) (o : Option ℕ) → b || c ≡ false → (c ≡ false → o ≡ None) → cond b (Some 0) (counted_from 1 o) ≡ None
      by true c o e f = cc
      by false c o e f = ap (counted_from 1) (f e)

-- whether there is such a slot
pub has_number : (slots : List LayoutSlot) (o : ℕ) (scalar : Scalar) → is_some (number_at slots o scalar) ≡ has_slot slots (pos o) scalar
has_number [] o scalar = refl
has_number (s ∷ slots) o scalar =
    ap is_some (position_cons (is_slot_at (pos o) scalar) s slots) ∙ by (is_slot_at (pos o) scalar s) (number_at slots o scalar)
    ∙ ap (λ b. is_slot_at (pos o) scalar s || b) (has_number slots o scalar)
  where
    by : (b : Bool) (r : Option ℕ) → is_some (cond b (Some 0) (counted_from 1 r)) ≡ b || is_some r
    by true r = refl
    by false None = refl
    by false (Some n) = refl

-- offsets that may be negative
pub number_below : (slots : List LayoutSlot) (z : ℤ) (scalar : Scalar) → z <ℤ pos 0 → None ≡ position (is_slot_at z scalar) slots
number_below slots (pos n) scalar h = absurd (omega (arith, ints, h))
number_below slots (negsuc n) scalar h = sym (no_position (is_slot_at (negsuc n) scalar) slots (sym (has_negative slots n scalar)))

pub has_below : (slots : List LayoutSlot) (z : ℤ) (scalar : Scalar) → z <ℤ pos 0 → false ≡ has_slot slots z scalar
has_below slots (pos n) scalar h = absurd (omega (arith, ints, h))
has_below slots (negsuc n) scalar h = has_negative slots n scalar

pub has_whole : (slots : List LayoutSlot) (z : ℤ) (scalar : Scalar) → pos 0 ≤ℤ z → is_some (number_at slots (nat_abs z) scalar) ≡ has_slot slots z scalar
has_whole slots (pos n) scalar h = has_number slots n scalar
has_whole slots (negsuc n) scalar h = absurd (omega (arith, ints, h))

pub number_whole : (slots : List LayoutSlot) (z : ℤ) (scalar : Scalar) → pos 0 ≤ℤ z → number_at slots (nat_abs z) scalar ≡ position (is_slot_at z scalar) slots
number_whole slots (pos n) scalar h = refl
number_whole slots (negsuc n) scalar h = absurd (omega (arith, ints, h))

-- numbers of the slots of a small variable
pub number_small : (known : List KnownLayout) (d : Decl) (o : ℕ) (scalar : Scalar) (n : ℕ) → All Solid known → (decl_layout known d).size ≤ 2 ^ 24 → Some n ≡ number_at (decl_layout known d).slots o scalar → n < 2 ^ 64
number_small known d o scalar n h small e =
    let k : n < length (decl_layout known d).slots = (position-Some (is_slot_at (pos o) scalar) (decl_layout known d).slots n (record { offset = 0; scalar = scalar }) (sym e)).0 in
    let dense : length (decl_layout known d).slots ≤ (decl_layout known d).size = decl_dense known d h in
    omega (arith, k, dense, small)

-- ---- slots that were moved

moved_number : (by o : ℕ) (slots : List LayoutSlot) (scalar : Scalar) → by ≤ o → number_at (moved by slots) o scalar ≡ number_at slots (o - by) scalar
moved_number by o [] scalar l = refl
moved_number by o (s ∷ slots) scalar l =
    position_cons (is_slot_at (pos o) scalar) (record { offset = by + s.offset; scalar = s.scalar }) (moved by slots)
    ∙ ap (λ b. cond (b && same_scalar s.scalar scalar) (Some 0) (counted_from 1 (number_at (moved by slots) o scalar))) (same_place by s.offset o l)
    ∙ ap (λ r. cond (is_slot_at (pos (o - by)) scalar s) (Some 0) (counted_from 1 r)) (moved_number by o slots scalar l)
    ∙ sym (position_cons (is_slot_at (pos (o - by)) scalar) s slots)

-- the first slot of an offset in elements in a row
repeated_number : (n size o : ℕ) (slots : List LayoutSlot) (scalar : Scalar) → All (λ s. s.offset < size) slots → o < n * size →
    number_at (repeated n size slots) o scalar ≡ counted_from (o / size * length slots) (number_at slots (o % size) scalar)
repeated_number zero size o slots scalar w l = let z : ⊥ = omega (arith, l) in absurd z
repeated_number (suc n) size o slots scalar w l =
    position_append (is_slot_at (pos o) scalar) (repeated n size slots) (moved (n * size) slots) ∙ ⊎_elim
    (λ h. ap (λ r. option_or (number_at (repeated n size slots) o scalar) (counted_from (length (repeated n size slots)) r)) (no_position (is_slot_at (pos o) scalar) (moved (n * size) slots) (has_before_moved (n * size) o slots scalar h))
    ∙ or_none (number_at (repeated n size slots) o scalar) ∙ repeated_number n size o slots scalar w h)
    (λ h. ap (λ r. option_or r (counted_from (length (repeated n size slots)) (number_at (moved (n * size) slots) o scalar))) (no_position (is_slot_at (pos o) scalar) (repeated n size slots) (sym (has_behind n size o slots scalar w h)))
    ∙ ap (counted_from (length (repeated n size slots))) (moved_number (n * size) o slots scalar h ∙ ap (λ x. number_at slots x scalar) (in_element n size o h l))
    ∙ ap (λ k. counted_from k (number_at slots (o % size) scalar)) (repeated_length n size slots ∙ ap (λ k. k * length slots) (sym (in_number n size o h l))))
    (cases_lt o (n * size))

-- ---- the field that lies at an offset

-- the first slot of an offset is in the last field that begins there or before
last_number : (known : List KnownLayout) (fs : List Decl) (size n o k d c : ℕ) (e : Decl) (scalar : Scalar) → All (λ k. IsLayout k.layout) known → k < length (field_starts known size fs) → get_or (field_starts known size fs) k d ≤ o →
    ((b : ℕ) → suc k < length (field_starts known size fs) → o < get_or (field_starts known size fs) (suc k) b) →
    counted_from n (number_at (slots_after known size fs) o scalar) ≡ counted_from (get_or (slots_before known n fs) k c) (number_at (decl_layout known (get_or fs k e)).slots (o - get_or (field_starts known size fs) k d) scalar)
last_number known [] size n o k d c e scalar h l begun later = absurd (omega (arith, l))
last_number known (f ∷ fs) size n o zero d c e scalar h l begun later =
    let first = moved (field_start known size f) (decl_layout known f).slots in
    ap (counted_from n) (position_append (is_slot_at (pos o) scalar) first (slots_after known (field_end known size f) fs)
    ∙ ap (λ r. option_or (number_at first o scalar) (counted_from (length first) r)) (no_position (is_slot_at (pos o) scalar) (slots_after known (field_end known size f) fs) (none_at known fs (field_end known size f) o scalar h (λ b m. later b (omega (arith, m)))))
    ∙ or_none (number_at first o scalar) ∙ moved_number (field_start known size f) o (decl_layout known f).slots scalar begun)
last_number known (f ∷ fs) size n o (suc k) d c e scalar h l begun later =
    let first = moved (field_start known size f) (decl_layout known f).slots in
    let m : k < length (field_starts known (field_end known size f) fs) = omega (arith, l) in
    let more : field_end known size f ≤ get_or (field_starts known (field_end known size f) fs) k d = starts_ahead known fs (field_end known size f) k d h m in
    let start : field_start known size f ≤ o = omega (arith, more, begun) in
    let past : (decl_layout known f).size ≤ o - field_start known size f = omega (arith, more, begun) in
    let none : has_slot first (pos o) scalar ≡ false = has_moved (field_start known size f) o (decl_layout known f).slots scalar start ∙ has_outside (decl_layout known f).size (o - field_start known size f) (decl_layout known f).slots scalar (decl_is known f h).slots past in
    ap (counted_from n) (position_append (is_slot_at (pos o) scalar) first (slots_after known (field_end known size f) fs)
    ∙ ap (λ r. option_or r (counted_from (length first) (number_at (slots_after known (field_end known size f) fs) o scalar))) (no_position (is_slot_at (pos o) scalar) first none))
    ∙ counted_more n (length first) (number_at (slots_after known (field_end known size f) fs) o scalar)
    ∙ ap (λ j. counted_from (n + j) (number_at (slots_after known (field_end known size f) fs) o scalar)) (moved_length (field_start known size f) (decl_layout known f).slots)
    ∙ last_number known fs (field_end known size f) (n + length (decl_layout known f).slots) o k d c e scalar h m begun (λ b r. later b (omega (arith, r)))

-- a field's slots end within those of its struct
last_slots : (known : List KnownLayout) (fs : List Decl) (size n k c : ℕ) (e : Decl) → k < length fs → get_or (slots_before known n fs) k c + length (decl_layout known (get_or fs k e)).slots ≤ n + length (slots_after known size fs)
last_slots known [] size n k c e l = absurd (omega (arith, l))
last_slots known (f ∷ fs) size n zero c e l =
    let first = moved (field_start known size f) (decl_layout known f).slots in
    let a = length-append first (slots_after known (field_end known size f) fs) in
    let b = moved_length (field_start known size f) (decl_layout known f).slots in
    omega (arith, a, b)
last_slots known (f ∷ fs) size n (suc k) c e l =
    let first = moved (field_start known size f) (decl_layout known f).slots in
    let a = length-append first (slots_after known (field_end known size f) fs) in
    let b = moved_length (field_start known size f) (decl_layout known f).slots in
    let more = last_slots known fs (field_end known size f) (n + length (decl_layout known f).slots) k c e (omega (arith, l)) in
    omega (arith, a, b, more)

part_number : (ss : List StructDef) (fs : List Decl) (own ahead o number before rest : ℕ) (f : Decl) → All (λ k. IsLayout k.layout) (first_layouts own ss) → number ≡ own → (k : ℕ)
    → IsLastFrom fs (field_starts (first_layouts own ss) 0 fs) (slots_before (first_layouts own ss) 0 fs) ahead o f before rest k → (scalar : Scalar) →
    counted_from ahead (number_at (slots_after (first_layouts own ss) 0 fs) o scalar) ≡ counted_from before (number_at (decl_layout (first_layouts number ss) f).slots rest scalar)
part_number ss fs own ahead o number before rest f h e k last scalar =
    let known = first_layouts own ss in
    let far = get_or (slots_before known 0 fs) k 0 in
    ap (counted_from ahead) (sym (counted_all (number_at (slots_after known 0 fs) o scalar))
    ∙ last_number known fs 0 0 o k 0 0 f scalar h last.within (last.begun 0) (λ c l. last.later (suc k) c (omega arith) l)
    ∙ ap (λ x. counted_from far (number_at (decl_layout known x).slots (o - get_or (field_starts known 0 fs) k 0) scalar)) (sym (last.field_is f))
    ∙ ap (λ x. counted_from far (number_at (decl_layout known f).slots x scalar)) (sym (last.rest_is 0)))
    ∙ counted_more ahead far (number_at (decl_layout known f).slots rest scalar)
    ∙ ap (λ x. counted_from x (number_at (decl_layout known f).slots rest scalar)) (sym (last.before_is 0))
    ∙ ap (λ x. counted_from before (number_at (decl_layout (first_layouts x ss) f).slots rest scalar)) (sym e)

part_slots : (ss : List StructDef) (fs : List Decl) (own ahead o number before rest : ℕ) (f : Decl) → number ≡ own → (k : ℕ)
    → IsLastFrom fs (field_starts (first_layouts own ss) 0 fs) (slots_before (first_layouts own ss) 0 fs) ahead o f before rest k →
    before + length (decl_layout (first_layouts number ss) f).slots ≤ ahead + length (slots_after (first_layouts own ss) 0 fs)
part_slots ss fs own ahead o number before rest f e k last =
    let known = first_layouts own ss in
    let w : k < length (field_starts known 0 fs) = last.within in
    let s = starts_length known fs 0 in
    let fit = last_slots known fs 0 0 k 0 f (omega (arith, w, s)) in
    let b : before ≡ ahead + get_or (slots_before known 0 fs) k 0 = last.before_is 0 in
    let same : length (decl_layout (first_layouts number ss) f).slots ≡ length (decl_layout known (get_or fs k f)).slots =
    ap (λ x. length (decl_layout (first_layouts x ss) f).slots) e ∙ ap (λ x. length (decl_layout known x).slots) (last.field_is f) in
    omega (arith, fit, b, same)

-- what stands at an offset in a struct stands in the last field that begins there or before
pub offset_in_struct : (ss : List StructDef) (l : Layout) (fs : List Decl) (starts others : List ℕ) (own ahead o bound : ℕ) (r : Part) → All (λ k. IsLayout k.layout) (first_layouts own ss) → l ≡ with_fields (first_layouts own ss) empty_layout fs
    → own < bound → starts ≡ field_starts (first_layouts own ss) 0 fs → others ≡ slots_before (first_layouts own ss) 0 fs → IsPartFrom fs starts others own ahead o r → OffsetLeadsTo ss l.slots ahead o bound r
offset_in_struct ss l fs starts others own ahead o bound r h all less e g is =
    subst (λ ks. OffsetLeadsTo ss ks ahead o bound r) (sym (ap (λ (x : Layout). x.slots) all ∙ slots_are known fs empty_layout)) (by r (subst (λ ys. IsPartFrom fs (field_starts (first_layouts own ss) 0 fs) ys own ahead o r) g (subst (λ xs. IsPartFrom fs xs others own ahead o r) e is)))
  where
    known : List KnownLayout
    known = first_layouts own ss

    by : (r : Part) → IsPartFrom fs (field_starts known 0 fs) (slots_before known 0 fs) own ahead o r → OffsetLeadsTo ss (slots_after known 0 fs) ahead o bound r
    by (Slot scalar before) is = absurd is
    by Nothing is = λ scalar. no_position (is_slot_at (pos o) scalar) (slots_after known 0 fs) (none_at known fs 0 o scalar h (λ c l. is 0 c l))
    by (Field number field before rest) is =
        let n = is.0 in
        (omega (arith, n, less), part_slots ss fs own ahead o number before rest field.now n is.1.0 is.1.1, part_number ss fs own ahead o number before rest field.now h n is.1.0 is.1.1)

-- ---- the element that lies at an offset

no_count : (a : ℕ) (o : Option ℕ) → counted_from a o ≡ None → o ≡ None
no_count a None h = refl
no_count a (Some n) h = cc

offset_within : (ss : List StructDef) (slots more : List LayoutSlot) (ahead before o p bound : ℕ) (r : Part) → ((scalar : Scalar) → counted_from ahead (number_at slots o scalar) ≡ counted_from before (number_at more p scalar))
    → before + length more ≤ ahead + length slots → OffsetLeadsTo ss more before p bound r → OffsetLeadsTo ss slots ahead o bound r
offset_within ss slots more ahead before o p bound (Slot own number) e fit h = λ scalar. e scalar ∙ h scalar
offset_within ss slots more ahead before o p bound Nothing e fit h = λ scalar. no_count ahead (number_at slots o scalar) (e scalar ∙ ap (counted_from before) (h scalar))
offset_within ss slots more ahead before o p bound (Field number field far rest) e fit h =
    let b : far + length (decl_layout (first_layouts number ss) field.now).slots ≤ before + length more = h.1 in
    (h.0, omega (arith, b, fit), λ scalar. e scalar ∙ h.2 scalar)

-- what stands at an offset in elements in a row stands in one of them
pub offset_in_row : (ss : List StructDef) (n size width units : ℕ) (slots : List LayoutSlot) (ahead o bound : ℕ) (r : Part) → width ≡ size → units ≡ length slots → All (λ s. s.offset < size) slots → o < n * size
    → OffsetLeadsTo ss slots (ahead + o / width * units) (o % width) bound r → OffsetLeadsTo ss (repeated n size slots) ahead o bound r
offset_in_row ss n size width units slots ahead o bound r d e w l h =
    let f : o / size * length slots + length slots ≤ n * length slots = element_fits n size o (length slots) l in
    let k = repeated_length n size slots in
    offset_within ss (repeated n size slots) slots ahead (ahead + o / size * length slots) o (o % size) bound r
    (λ scalar. ap (counted_from ahead) (repeated_number n size o slots scalar w l) ∙ counted_more ahead (o / size * length slots) (number_at slots (o % size) scalar))
    (omega (arith, f, k)) (subst (λ x. OffsetLeadsTo ss slots (ahead + o / size * x) (o % size) bound r) e (subst (λ x. OffsetLeadsTo ss slots (ahead + o / x * units) (o % x) bound r) d h))

-- behind the elements
pub offset_past_row : (ss : List StructDef) (n size : ℕ) (slots : List LayoutSlot) (ahead o bound : ℕ) → All (λ s. s.offset < size) slots → n * size ≤ o → OffsetLeadsTo ss (repeated n size slots) ahead o bound Nothing
offset_past_row ss n size slots ahead o bound w l = λ scalar. no_position (is_slot_at (pos o) scalar) (repeated n size slots) (sym (has_behind n size o slots scalar w l))

-- an element that is a scalar
one_at : (own : Scalar) (z ahead : ℕ) (scalar : Scalar) → z ≡ 0 → counted_from ahead (number_at (record { offset = 0; scalar = own } ∷ []) z scalar) ≡ if_same own scalar ahead
one_at own z ahead scalar e =
    ap (λ k. counted_from ahead (number_at (record { offset = 0; scalar = own } ∷ []) k scalar)) e
    ∙ ap (counted_from ahead) (position_cons (is_slot_at (pos 0) scalar) (record { offset = 0; scalar = own }) []) ∙ by (same_scalar own scalar)
  where
    by : (b : Bool) → counted_from ahead (cond b (Some 0) None) ≡ (if b then Some ahead else None)
    by true = ap Some (omega arith)
    by false = refl

pub offset_in_plain : (ss : List StructDef) (known : List KnownLayout) (shape : Shape) (own : Scalar) (z ahead bound : ℕ) → shape ≡ Plain own → z ≡ 0 → OffsetLeadsTo ss (shape_layout known shape).slots ahead z bound (Slot own ahead)
offset_in_plain ss known shape own z ahead bound e h = λ scalar. ap (λ s. counted_from ahead (number_at (shape_layout known s).slots z scalar)) e ∙ one_at own z ahead scalar h

pub offset_off_plain : (ss : List StructDef) (known : List KnownLayout) (shape : Shape) (own : Scalar) (z ahead bound : ℕ) → shape ≡ Plain own → 0 < z → OffsetLeadsTo ss (shape_layout known shape).slots ahead z bound Nothing
offset_off_plain ss known shape own z ahead bound e l = λ scalar. no_position (is_slot_at (pos z) scalar) (shape_layout known shape).slots (plain_not known shape own z scalar e l)
