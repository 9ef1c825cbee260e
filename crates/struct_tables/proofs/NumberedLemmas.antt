-- The slot of a number, in elements in a row and in the fields of a struct.
use Rattle.std.proofs.Common.{◌≡◌, ℕ, zero, suc, ◌+◌, ◌-◌, ◌*◌, ◌/◌, ◌%◌, ◌<◌, ◌≤◌, List, [], ◌∷◌, ◌++◌, length, get_or, Option, Some, None, refl, sym, subst, ◌∙◌, ap, arith, append-nil, ⊎_elim}
use Rattle.std.specs.List.{All, slice_get}
use Rattle.std.specs.List.Sorted.{IsNonDecreasing}
use Rattle.std.proofs.lemmas.Bool.{cases_lt}
use Rattle.std.proofs.lemmas.Option.{slice_get-map, slice_get_past}
use Rattle.gimple_ir.specs.declared.scalar.Scalar.{Scalar}
use Rattle.gimple_ir.specs.declared.value.Layout.{Layout}
use Rattle.gimple_ir.specs.declared.value.LayoutSlot.{LayoutSlot}
use Rattle.gimple_ir.specs.declared.declarations.Decl.{Decl}
use Rattle.gimple_ir.specs.declared.declarations.Shape.{Shape}
use Rattle.gimple_ir.specs.declared.declarations.Shape.TheVariants.{Plain}
use Rattle.gimple_ir.specs.declared.declarations.StructDef.{StructDef}
use Rattle.gimple_core.specs.Layout.{KnownLayout}
use Rattle.gimple_core.specs.Layout.{empty_layout, moved, repeated, array_layout, shape_layout, decl_layout, with_field, with_fields, IsLayout}
use Rattle.gimple_core.proofs.LayoutLemmas.{empty_is, decl_is, field_is, fields_least}
use Rattle.struct_tables.specs.Sizes.{field_start, field_end, field_starts, slots_after, slots_before, first_layouts}
use Rattle.struct_tables.specs.Slots.{placed_from, IsLastFrom, IsPartFrom, NumberLeadsTo}
use Rattle.struct_tables.specs.declared.slots.Part.{Part}
use Rattle.struct_tables.specs.declared.slots.Part.TheVariants.{Slot, Nothing, Field}
use Rattle.struct_tables.proofs.FieldLemmas.{slots_are}
use Rattle.struct_tables.proofs.SizeLemmas.{moved_length, repeated_length, in_element, in_number, element_fits}

module _ {T : Type 0} where
  get_left : (a b : List T) (i : ℕ) → i < length a → slice_get (a ++ b) i ≡ slice_get a i
  get_left [] b i l = let z : ⊥ = omega (arith, l) in absurd z
  get_left (x ∷ a) b zero l = refl
  get_left (x ∷ a) b (suc i) l = let k : i < length a = omega (arith, l) in get_left a b i k

  get_right : (a b : List T) (i : ℕ) → length a ≤ i → slice_get (a ++ b) i ≡ slice_get b (i - length a)
  get_right [] b i l = let e : i ≡ i - 0 = omega arith in ap (slice_get b) e
  get_right (x ∷ a) b zero l = let z : ⊥ = omega (arith, l) in absurd z
  get_right (x ∷ a) b (suc i) l = let k : length a ≤ i = omega (arith, l) in let e : i - length a ≡ suc i - length (x ∷ a) = omega arith in get_right a b i k ∙ ap (slice_get b) e

-- ---- slots behind some bytes

pub placed_all : (o : Option LayoutSlot) → placed_from 0 o ≡ o
placed_all None = refl
placed_all (Some s) = let e : 0 + s.offset ≡ s.offset = omega arith in λ i. Some (record { offset = e i; scalar = s.scalar })

placed_more : (a b : ℕ) (o : Option LayoutSlot) → placed_from a (placed_from b o) ≡ placed_from (a + b) o
placed_more a b None = refl
placed_more a b (Some s) = let e : a + (b + s.offset) ≡ a + b + s.offset = omega arith in λ i. Some (record { offset = e i; scalar = s.scalar })

moved_slot : (by i : ℕ) (slots : List LayoutSlot) → slice_get (moved by slots) i ≡ placed_from by (slice_get slots i)
moved_slot by i slots = slice_get-map (λ (s : LayoutSlot). record { offset = by + s.offset; scalar = s.scalar }) slots i

-- a slot of elements in a row
repeated_slot : (n size i : ℕ) (slots : List LayoutSlot) → i < n * length slots → slice_get (repeated n size slots) i ≡ placed_from (i / length slots * size) (slice_get slots (i % length slots))
repeated_slot zero size i slots l = let z : ⊥ = omega (arith, l) in absurd z
repeated_slot (suc n) size i slots l =
    let e = repeated_length n size slots in
    ⊎_elim
    (λ h. get_left (repeated n size slots) (moved (n * size) slots) i (let k : i < length (repeated n size slots) = omega (arith, h, e) in k) ∙ repeated_slot n size i slots h)
    (λ h. get_right (repeated n size slots) (moved (n * size) slots) i (let k : length (repeated n size slots) ≤ i = omega (arith, h, e) in k)
    ∙ moved_slot (n * size) (i - length (repeated n size slots)) slots
    ∙ ap (λ k. placed_from (n * size) (slice_get slots k)) (ap (λ k. i - k) e ∙ in_element n (length slots) i h l)
    ∙ ap (λ k. placed_from (k * size) (slice_get slots (i % length slots))) (sym (in_number n (length slots) i h l)))
    (cases_lt i (n * length slots))

-- a slot of a field
field_slot : (known : List KnownLayout) (f : Decl) (fs : List Decl) (size i : ℕ) → i < length (decl_layout known f).slots → slice_get (slots_after known size (f ∷ fs)) i ≡ placed_from (field_start known size f) (slice_get (decl_layout known f).slots i)
field_slot known f fs size i l =
    let e = moved_length (field_start known size f) (decl_layout known f).slots in
    let k : i < length (moved (field_start known size f) (decl_layout known f).slots) = omega (arith, l, e) in
    get_left (moved (field_start known size f) (decl_layout known f).slots) (slots_after known (field_end known size f) fs) i k ∙ moved_slot (field_start known size f) i (decl_layout known f).slots

-- a slot of a later field
later_slot : (known : List KnownLayout) (f : Decl) (fs : List Decl) (size i : ℕ) → length (decl_layout known f).slots ≤ i → slice_get (slots_after known size (f ∷ fs)) i ≡ slice_get (slots_after known (field_end known size f) fs) (i - length (decl_layout known f).slots)
later_slot known f fs size i l =
    let e = moved_length (field_start known size f) (decl_layout known f).slots in
    let k : length (moved (field_start known size f) (decl_layout known f).slots) ≤ i = omega (arith, l, e) in
    get_right (moved (field_start known size f) (decl_layout known f).slots) (slots_after known (field_end known size f) fs) i k
    ∙ ap (λ n. slice_get (slots_after known (field_end known size f) fs) (i - n)) e

-- ---- the field in which the slot of a number lies

pub before_length : (known : List KnownLayout) (fs : List Decl) (n : ℕ) → length (slots_before known n fs) ≡ length fs
before_length known [] n = refl
before_length known (f ∷ fs) n = ap suc (before_length known fs (n + length (decl_layout known f).slots))

before_ahead : (known : List KnownLayout) (fs : List Decl) (n i d : ℕ) → i < length (slots_before known n fs) → n ≤ get_or (slots_before known n fs) i d
before_ahead known [] n i d l = absurd (omega (arith, l))
before_ahead known (f ∷ fs) n zero d l = omega arith
before_ahead known (f ∷ fs) n (suc i) d l =
    let m : i < length (slots_before known (n + length (decl_layout known f).slots) fs) = omega (arith, l) in
    let more = before_ahead known fs (n + length (decl_layout known f).slots) i d m in
    omega (arith, more)

pub before_ascend : (known : List KnownLayout) (fs : List Decl) (n : ℕ) → IsNonDecreasing (slots_before known n fs)
before_ascend known [] n i j d l m = absurd (omega (arith, m))
before_ascend known (f ∷ fs) n zero zero d l m = omega arith
before_ascend known (f ∷ fs) n zero (suc j) d l m =
    let k : j < length (slots_before known (n + length (decl_layout known f).slots) fs) = omega (arith, m) in
    let more = before_ahead known fs (n + length (decl_layout known f).slots) j d k in
    omega (arith, more)
before_ascend known (f ∷ fs) n (suc i) zero d l m = absurd (omega (arith, l))
before_ascend known (f ∷ fs) n (suc i) (suc j) d l m = before_ascend known fs (n + length (decl_layout known f).slots) i j d (omega (arith, l)) (omega (arith, m))

-- a slot of the only field
only_slot : (known : List KnownLayout) (f : Decl) (size i : ℕ) → slice_get (slots_after known size (f ∷ [])) i ≡ placed_from (field_start known size f) (slice_get (decl_layout known f).slots i)
only_slot known f size i =
    ap (λ slots. slice_get slots i) (append-nil (moved (field_start known size f) (decl_layout known f).slots)) ∙ moved_slot (field_start known size f) i (decl_layout known f).slots

-- the last field before which no more than so many slots stand
last_slot : (known : List KnownLayout) (fs : List Decl) (size n i k d c : ℕ) (e : Decl) → k < length (slots_before known n fs) → n ≤ i → get_or (slots_before known n fs) k d ≤ i →
    ((b : ℕ) → suc k < length (slots_before known n fs) → i < get_or (slots_before known n fs) (suc k) b) →
    slice_get (slots_after known size fs) (i - n) ≡ placed_from (get_or (field_starts known size fs) k c) (slice_get (decl_layout known (get_or fs k e)).slots (i - get_or (slots_before known n fs) k d))
last_slot known [] size n i k d c e l from begun later = absurd (omega (arith, l))
last_slot known (f ∷ []) size n i zero d c e l from begun later = only_slot known f size (i - n)
last_slot known (f ∷ g ∷ fs) size n i zero d c e l from begun later =
    let next : i < n + length (decl_layout known f).slots = later 0 (omega arith) in
    field_slot known f (g ∷ fs) size (i - n) (omega (arith, next, from))
last_slot known (f ∷ fs) size n i (suc k) d c e l from begun later =
    let m : k < length (slots_before known (n + length (decl_layout known f).slots) fs) = omega (arith, l) in
    let more : n + length (decl_layout known f).slots ≤ get_or (slots_before known (n + length (decl_layout known f).slots) fs) k d = before_ahead known fs (n + length (decl_layout known f).slots) k d m in
    let behind : length (decl_layout known f).slots ≤ i - n = omega (arith, more, begun) in
    let up : n + length (decl_layout known f).slots ≤ i = omega (arith, more, begun) in
    let way : i - n - length (decl_layout known f).slots ≡ i - (n + length (decl_layout known f).slots) = omega (arith, up) in
    later_slot known f fs size (i - n) behind
    ∙ ap (slice_get (slots_after known (field_end known size f) fs)) way
    ∙ last_slot known fs (field_end known size f) (n + length (decl_layout known f).slots) i k d c e m up begun (λ b r. later b (omega (arith, r)))

-- a field ends within its struct
last_size : (known : List KnownLayout) (fs : List Decl) (l : Layout) (k c : ℕ) (e : Decl) → All (λ k. IsLayout k.layout) known → IsLayout l → k < length fs →
    get_or (field_starts known l.size fs) k c + (decl_layout known (get_or fs k e)).size ≤ (with_fields known l fs).size
last_size known [] l k c e h is m = absurd (omega (arith, m))
last_size known (f ∷ fs) l zero c e h is m = fields_least known fs (with_field l (decl_layout known f)) h (field_is l (decl_layout known f) is (decl_is known f h))
last_size known (f ∷ fs) l (suc k) c e h is m = last_size known fs (with_field l (decl_layout known f)) k c e h (field_is l (decl_layout known f) is (decl_is known f h)) (omega (arith, m))

no_field : (known : List KnownLayout) (fs : List Decl) (i : ℕ) → ((c : ℕ) → 0 < length (slots_before known 0 fs) → i < get_or (slots_before known 0 fs) 0 c) → slice_get (slots_after known 0 fs) i ≡ None
no_field known [] i first = refl
no_field known (f ∷ fs) i first = let none : i < 0 = first 0 (omega arith) in absurd (omega (arith, none))

part_slot : (ss : List StructDef) (fs : List Decl) (own ahead i number before rest : ℕ) (f : Decl) → number ≡ own → (k : ℕ)
    → IsLastFrom fs (slots_before (first_layouts own ss) 0 fs) (field_starts (first_layouts own ss) 0 fs) ahead i f before rest k →
    placed_from ahead (slice_get (slots_after (first_layouts own ss) 0 fs) i) ≡ placed_from before (slice_get (decl_layout (first_layouts number ss) f).slots rest)
part_slot ss fs own ahead i number before rest f e k last =
    let known = first_layouts own ss in
    let far = get_or (field_starts known 0 fs) k 0 in
    let all : i ≡ i - 0 = omega arith in
    ap (placed_from ahead) (ap (slice_get (slots_after known 0 fs)) all
    ∙ last_slot known fs 0 0 i k 0 0 f last.within (omega arith) (last.begun 0) (λ c l. last.later (suc k) c (omega arith) l)
    ∙ ap (λ x. placed_from far (slice_get (decl_layout known x).slots (i - get_or (slots_before known 0 fs) k 0))) (sym (last.field_is f))
    ∙ ap (λ x. placed_from far (slice_get (decl_layout known f).slots x)) (sym (last.rest_is 0)))
    ∙ placed_more ahead far (slice_get (decl_layout known f).slots rest)
    ∙ ap (λ x. placed_from x (slice_get (decl_layout known f).slots rest)) (sym (last.before_is 0))
    ∙ ap (λ x. placed_from before (slice_get (decl_layout (first_layouts x ss) f).slots rest)) (sym e)

part_size : (ss : List StructDef) (fs : List Decl) (own ahead i number before rest : ℕ) (f : Decl) → All (λ k. IsLayout k.layout) (first_layouts own ss) → number ≡ own → (k : ℕ)
    → IsLastFrom fs (slots_before (first_layouts own ss) 0 fs) (field_starts (first_layouts own ss) 0 fs) ahead i f before rest k →
    before + (decl_layout (first_layouts number ss) f).size ≤ ahead + (with_fields (first_layouts own ss) empty_layout fs).size
part_size ss fs own ahead i number before rest f h e k last =
    let known = first_layouts own ss in
    let w : k < length (slots_before known 0 fs) = last.within in
    let s = before_length known fs 0 in
    let fit : get_or (field_starts known 0 fs) k 0 + (decl_layout known (get_or fs k f)).size ≤ (with_fields known empty_layout fs).size = last_size known fs empty_layout k 0 f h empty_is (omega (arith, w, s)) in
    let b : before ≡ ahead + get_or (field_starts known 0 fs) k 0 = last.before_is 0 in
    let same : (decl_layout (first_layouts number ss) f).size ≡ (decl_layout known (get_or fs k f)).size = ap (λ x. (decl_layout (first_layouts x ss) f).size) e ∙ ap (λ x. (decl_layout known x).size) (last.field_is f) in
    omega (arith, fit, b, same)

-- the slot of a number in a struct is one of the last field before which no more slots stand
pub number_in_struct : (ss : List StructDef) (l : Layout) (fs : List Decl) (starts others : List ℕ) (own ahead i bound : ℕ) (r : Part) → All (λ k. IsLayout k.layout) (first_layouts own ss) → l ≡ with_fields (first_layouts own ss) empty_layout fs
    → own < bound → starts ≡ slots_before (first_layouts own ss) 0 fs → others ≡ field_starts (first_layouts own ss) 0 fs → IsPartFrom fs starts others own ahead i r → NumberLeadsTo ss l ahead i bound r
number_in_struct ss l fs starts others own ahead i bound r h all less e g is =
    subst (λ x. NumberLeadsTo ss x ahead i bound r) (sym all) (by r (subst (λ ys. IsPartFrom fs (slots_before known 0 fs) ys own ahead i r) g (subst (λ xs. IsPartFrom fs xs others own ahead i r) e is)))
  where
    known : List KnownLayout
    known = first_layouts own ss

    whole : Layout
    whole = with_fields known empty_layout fs

    slots : whole.slots ≡ slots_after known 0 fs
    slots = slots_are known fs empty_layout

    by : (r : Part) → IsPartFrom fs (slots_before known 0 fs) (field_starts known 0 fs) own ahead i r → NumberLeadsTo ss whole ahead i bound r
    by (Slot scalar before) is = absurd is
    by Nothing is = ap (λ ks. slice_get ks i) slots ∙ no_field known fs i (λ c l. is 0 c l)
    by (Field number field before rest) is =
        let n = is.0 in
        (omega (arith, n, less), part_size ss fs own ahead i number before rest field.now h n is.1.0 is.1.1, ap (λ ks. placed_from ahead (slice_get ks i)) slots ∙ part_slot ss fs own ahead i number before rest field.now n is.1.0 is.1.1)

-- ---- the element that has the slot of a number

no_place : (a : ℕ) (o : Option LayoutSlot) → placed_from a o ≡ None → o ≡ None
no_place a None h = refl
no_place a (Some s) h = cc

number_within : (ss : List StructDef) (l m : Layout) (ahead before i j bound : ℕ) (r : Part) → placed_from ahead (slice_get l.slots i) ≡ placed_from before (slice_get m.slots j) → before + m.size ≤ ahead + l.size
    → NumberLeadsTo ss m before j bound r → NumberLeadsTo ss l ahead i bound r
number_within ss l m ahead before i j bound (Slot own far) e fit h = e ∙ h
number_within ss l m ahead before i j bound Nothing e fit h = no_place ahead (slice_get l.slots i) (e ∙ ap (placed_from before) h)
number_within ss l m ahead before i j bound (Field number field far rest) e fit h =
    let b : far + (decl_layout (first_layouts number ss) field.now).size ≤ before + m.size = h.1 in
    (h.0, omega (arith, b, fit), e ∙ h.2)

-- the slot of a number in elements in a row is one of an element
pub number_in_row : (ss : List StructDef) (n width units : ℕ) (l : Layout) (ahead i bound : ℕ) (r : Part) → width ≡ length l.slots → units ≡ l.size → i < n * length l.slots
    → NumberLeadsTo ss l (ahead + i / width * units) (i % width) bound r → NumberLeadsTo ss (array_layout n l) ahead i bound r
number_in_row ss n width units l ahead i bound r d e m h =
    let f : i / length l.slots * l.size + l.size ≤ n * l.size = element_fits n (length l.slots) i l.size m in
    number_within ss (array_layout n l) l ahead (ahead + i / length l.slots * l.size) i (i % length l.slots) bound r
    (ap (placed_from ahead) (repeated_slot n l.size i l.slots m) ∙ placed_more ahead (i / length l.slots * l.size) (slice_get l.slots (i % length l.slots)))
    (omega (arith, f)) (subst (λ x. NumberLeadsTo ss l (ahead + i / length l.slots * x) (i % length l.slots) bound r) e (subst (λ x. NumberLeadsTo ss l (ahead + i / x * units) (i % x) bound r) d h))

-- behind the elements
pub number_past_row : (ss : List StructDef) (n : ℕ) (l : Layout) (ahead i bound : ℕ) → n * length l.slots ≤ i → NumberLeadsTo ss (array_layout n l) ahead i bound Nothing
number_past_row ss n l ahead i bound m = let e = repeated_length n l.size l.slots in slice_get_past (repeated n l.size l.slots) i (omega (arith, m, e))

-- an element that is a scalar
only_one : (own : Scalar) (i ahead : ℕ) → i ≡ 0 → placed_from ahead (slice_get (record { offset = 0; scalar = own } ∷ []) i) ≡ Some (record { offset = ahead; scalar = own })
only_one own i ahead e =
    let far : ahead + 0 ≡ ahead = omega arith in
    ap (λ k. placed_from ahead (slice_get (record { offset = 0; scalar = own } ∷ []) k)) e ∙ (λ j. Some (record { offset = far j; scalar = own }))

pub number_in_plain : (ss : List StructDef) (known : List KnownLayout) (shape : Shape) (own : Scalar) (i ahead bound : ℕ) → shape ≡ Plain own → i < length (shape_layout known shape).slots → NumberLeadsTo ss (shape_layout known shape) ahead i bound (Slot own ahead)
number_in_plain ss known shape own i ahead bound e l =
    let m : i < 1 = subst (λ s. i < length (shape_layout known s).slots) e l in
    ap (λ s. placed_from ahead (slice_get (shape_layout known s).slots i)) e ∙ only_one own i ahead (omega (arith, m))
