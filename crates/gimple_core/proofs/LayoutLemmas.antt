-- Layouts: their slots begin within their sizes, and a struct's size is not below those of its fields.
use Rattle.std.proofs.Common.{◌≡◌, ℕ, zero, suc, ◌+◌, ◌-◌, ◌*◌, ◌/◌, ◌%◌, ◌<◌, ◌≤◌, length, get_or, take, drop, add-one, Bool, true, false, if◌then◌else◌, List, [], ◌∷◌, ◌++◌, refl, sym, ◌∙◌, ap, arith, Option, Some, None}
use Rattle.std.proofs.Math.Nat.{div-add-mod, mod-lt}
use Rattle.std.proofs.Math.Seq.{take-suc}
use Rattle.std.proofs.lemmas.List.{take-append-drop}
use Rattle.std.specs.List.{All, find, list_any}
use Rattle.std.specs.Option.{option_or}
use Rattle.std.proofs.lemmas.List.Elements.{All-nil, All-cons, All-head, All-tail, All-append, All-push, All-weaker, All-map}
use Rattle.std.proofs.lemmas.List.Folds.{find-append, list_any-append}
use Rattle.gimple_ir.specs.declared.scalar.Scalar.{Scalar}
use Rattle.gimple_ir.specs.declared.scalar.Scalar.TheVariants.{I8, I16, I32, I64, U8, U16, U32, U64, Ptr}
use Rattle.gimple_ir.specs.declared.declarations.Shape.{Shape}
use Rattle.gimple_ir.specs.declared.declarations.Shape.TheVariants.{Plain, Named}
use Rattle.gimple_ir.specs.declared.declarations.Decl.{Decl}
use Rattle.gimple_ir.specs.declared.declarations.StructDef.{StructDef}
use Rattle.gimple_ir.specs.declared.value.LayoutSlot.{LayoutSlot}
use Rattle.gimple_ir.specs.declared.value.Layout.{Layout}
use Rattle.gimple_core.specs.Layout.{KnownLayout}
use Rattle.std.specs.Str.{bytes_eq}
use Rattle.gimple_core.specs.Layout.{empty_layout, round_up, moved, known_layout, shape_layout, repeated, count_of, array_layout, decl_layout, with_field, with_fields, struct_layouts, layout_of, IsLayout}

-- ---- rounding

rounded_least : (q r n a : ℕ) → 1 ≤ a → a * q + r ≡ n + (a - 1) → r < a → n ≤ q * a
rounded_least q r n a h e l = grind (arith, e, l, h)

pub round_up-least : (n a : ℕ) → 1 ≤ a → n ≤ round_up n a
round_up-least n a h = rounded_least ((n + (a - 1)) / a) ((n + (a - 1)) % a) n a h (div-add-mod (n + (a - 1)) a) (mod-lt (n + (a - 1)) h)

-- ---- slots within a size

abbrev Within : ℕ → List LayoutSlot → Type 0
Within n slots = All (λ s. s.offset < n) slots

within_more : (n m : ℕ) (slots : List LayoutSlot) → n ≤ m → Within n slots → Within m slots
within_more n m slots l w = All-weaker (λ s. s.offset < n) (λ s. s.offset < m) (λ s h. omega (arith, h, l)) slots w

pub moved_within : (by n : ℕ) (slots : List LayoutSlot) → Within n slots → Within (by + n) (moved by slots)
moved_within by n slots w =
    All-map (λ s. s.offset < by + n) (λ s. record { offset = by + s.offset; scalar = s.scalar }) slots
    (All-weaker (λ s. s.offset < n) (λ s. by + s.offset < by + n) (λ s h. omega (arith, h)) slots w)

pub repeated_within : (k n : ℕ) (slots : List LayoutSlot) → Within n slots → Within (k * n) (repeated k n slots)
repeated_within zero n slots w = All-nil (λ s. s.offset < 0 * n)
repeated_within (suc k) n slots w =
    let l : k * n ≤ suc k * n = grind arith in
    let m : k * n + n ≤ suc k * n = grind arith in
    All-append (λ s. s.offset < suc k * n) (repeated k n slots) (moved (k * n) slots)
    (within_more (k * n) (suc k * n) _ l (repeated_within k n slots w))
    (within_more (k * n + n) (suc k * n) _ m (moved_within (k * n) n slots w))

-- ---- each layout is one

pub empty_is : IsLayout empty_layout
empty_is = record { least = omega arith; most = omega arith; slots = All-nil (λ s. s.offset < 0) }

pub array_is : (n : ℕ) (l : Layout) → IsLayout l → IsLayout (array_layout n l)
array_is n l h = record { least = h.least; most = h.most; slots = repeated_within n l.size l.slots h.slots }

plain_by : (n : ℕ) (scalar : Scalar) → 1 ≤ n → n ≤ 8 → IsLayout (record { size = n; align = n; slots = record { offset = 0; scalar = scalar } ∷ [] })
plain_by n scalar l m = record { least = l; most = m; slots = All-cons (λ s. s.offset < n) _ [] l (All-nil (λ s. s.offset < n)) }

pub plain_is : (known : List KnownLayout) (scalar : Scalar) → IsLayout (shape_layout known (Plain scalar))
plain_is known I8 = plain_by 1 I8 (omega arith) (omega arith)
plain_is known I16 = plain_by 2 I16 (omega arith) (omega arith)
plain_is known I32 = plain_by 4 I32 (omega arith) (omega arith)
plain_is known I64 = plain_by 8 I64 (omega arith) (omega arith)
plain_is known U8 = plain_by 1 U8 (omega arith) (omega arith)
plain_is known U16 = plain_by 2 U16 (omega arith) (omega arith)
plain_is known U32 = plain_by 4 U32 (omega arith) (omega arith)
plain_is known U64 = plain_by 8 U64 (omega arith) (omega arith)
plain_is known Ptr = plain_by 8 Ptr (omega arith) (omega arith)

found_of : (x : KnownLayout) (o : Option KnownLayout) (b : Bool) → IsLayout x.layout → IsLayout (known_layout o) → IsLayout (known_layout (if b then Some x else o))
found_of x o true h more = h
found_of x o false h more = more

pub found_is : (test : KnownLayout → Bool) (known : List KnownLayout) → All (λ k. IsLayout k.layout) known → IsLayout (known_layout (find test known))
found_is test [] h = empty_is
found_is test (x ∷ xs) h =
    found_of x (find test xs) (test x) (All-head (λ k. IsLayout k.layout) x xs h) (found_is test xs (All-tail (λ k. IsLayout k.layout) x xs h))

shape_is : (known : List KnownLayout) (shape : Shape) → All (λ k. IsLayout k.layout) known → IsLayout (shape_layout known shape)
shape_is known (Plain scalar) h = plain_is known scalar
shape_is known (Named name) h = found_is (λ k. bytes_eq k.name name) known h

pub decl_is : (known : List KnownLayout) (d : Decl) → All (λ k. IsLayout k.layout) known → IsLayout (decl_layout known d)
decl_is known d h = array_is (count_of d.length) (shape_layout known d.shape) (shape_is known d.shape h)

pub field_is : (l f : Layout) → IsLayout l → IsLayout f → IsLayout (with_field l f)
field_is l f h k =
    let up : l.size ≤ round_up l.size f.align = round_up-least l.size f.align k.least in
    let a : 1 ≤ l.align = h.least in
    let b : l.align ≤ 8 = h.most in
    let c : f.align ≤ 8 = k.most in
    record {
      least = omega (arith, a);
      most = omega (arith, b, c);
      slots = All-append (λ s. s.offset < round_up l.size f.align + f.size) l.slots (moved (round_up l.size f.align) f.slots)
          (within_more l.size (round_up l.size f.align + f.size) l.slots (omega (arith, up)) h.slots)
          (moved_within (round_up l.size f.align) f.size f.slots k.slots);
    }

pub fields_is : (known : List KnownLayout) (fs : List Decl) (l : Layout) → All (λ k. IsLayout k.layout) known → IsLayout l → IsLayout (with_fields known l fs)
fields_is known [] l h k = record { least = k.least; most = k.most; slots = within_more l.size (round_up l.size l.align) l.slots (round_up-least l.size l.align k.least) k.slots }
fields_is known (f ∷ fs) l h k = fields_is known fs (with_field l (decl_layout known f)) h (field_is l (decl_layout known f) k (decl_is known f h))

-- ---- sizes only grow

pub field_least : (l f : Layout) → IsLayout f → l.size ≤ (with_field l f).size
field_least l f k = let up : l.size ≤ round_up l.size f.align = round_up-least l.size f.align k.least in omega (arith, up)

pub fields_least : (known : List KnownLayout) (fs : List Decl) (l : Layout) → All (λ k. IsLayout k.layout) known → IsLayout l → l.size ≤ (with_fields known l fs).size
fields_least known [] l h k = round_up-least l.size l.align k.least
fields_least known (f ∷ fs) l h k =
    let first : l.size ≤ (with_field l (decl_layout known f)).size = field_least l (decl_layout known f) (decl_is known f h) in
    let rest : (with_field l (decl_layout known f)).size ≤ (with_fields known (with_field l (decl_layout known f)) fs).size = fields_least known fs (with_field l (decl_layout known f)) h (field_is l (decl_layout known f) k (decl_is known f h)) in
    omega (arith, first, rest)

-- where the fields from one on are small, it is small
pub field_small : (known : List KnownLayout) (f : Decl) (fs : List Decl) (l : Layout) (n : ℕ) → All (λ k. IsLayout k.layout) known → IsLayout l → (with_fields known l (f ∷ fs)).size ≤ n → (with_field l (decl_layout known f)).size ≤ n
field_small known f fs l n h k e =
    let rest : (with_field l (decl_layout known f)).size ≤ (with_fields known (with_field l (decl_layout known f)) fs).size = fields_least known fs (with_field l (decl_layout known f)) h (field_is l (decl_layout known f) k (decl_is known f h)) in
    omega (arith, rest, e)

pub decl_small : (l f : Layout) (n : ℕ) → (with_field l f).size ≤ n → f.size ≤ n
decl_small l f n e = omega (arith, e)

-- ---- the structs before one

-- what is known of a struct behind others
abbrev pub entry : List KnownLayout → StructDef → KnownLayout
entry known s = record { name = s.name; layout = with_fields known empty_layout s.fields }

pub layouts_append : (ss ts : List StructDef) (known : List KnownLayout) → struct_layouts known (ss ++ ts) ≡ struct_layouts (struct_layouts known ss) ts
layouts_append [] ts known = refl
layouts_append (s ∷ ss) ts known = layouts_append ss ts (known ++ entry known s ∷ [])

-- the layouts up to the i-th struct and the next one
pub layouts_next : (structs : List StructDef) (i : ℕ) (s : StructDef) → s ≡ get_or structs i s → i < length structs → struct_layouts [] (take (i + 1) structs) ≡ struct_layouts [] (take i structs) ++ entry (struct_layouts [] (take i structs)) s ∷ []
layouts_next structs i s e l =
    let next : take (i + 1) structs ≡ take i structs ++ s ∷ [] = rw (add-one i) (take-suc structs i s l ∙ ap (λ (x : StructDef). take i structs ++ x ∷ []) (sym e)) in
    ap (struct_layouts []) next ∙ layouts_append (take i structs) (s ∷ []) []

pub none_next : (test : StructDef → Bool) (structs : List StructDef) (i : ℕ) (s : StructDef) → s ≡ get_or structs i s → i < length structs → list_any test (take i structs) ≡ false → test s ≡ false → list_any test (take (i + 1) structs) ≡ false
none_next test structs i s e l before other =
    let next : take (i + 1) structs ≡ take i structs ++ s ∷ [] = rw (add-one i) (take-suc structs i s l ∙ ap (λ (x : StructDef). take i structs ++ x ∷ []) (sym e)) in
    rw (next, list_any-append test (take i structs) (s ∷ []), before, other) refl

pub found_stays : (test : KnownLayout → Bool) (y : KnownLayout) (ss : List StructDef) (known : List KnownLayout) → find test known ≡ Some y → find test (struct_layouts known ss) ≡ Some y
found_stays test y [] known e = e
found_stays test y (s ∷ ss) known e =
    found_stays test y ss (known ++ entry known s ∷ []) (find-append test known (entry known s ∷ []) ∙ ap (λ o. option_or o (find test (entry known s ∷ []))) e)

ends_of : (x : KnownLayout) (o : Option KnownLayout) (b : Bool) → b ≡ true → (y : KnownLayout) × (option_or o (if b then Some x else None) ≡ Some y)
ends_of x None true e = (x, refl)
ends_of x (Some y) true e = (y, refl)
ends_of x None false e = cc
ends_of x (Some y) false e = cc

ends_found : (test : KnownLayout → Bool) (xs : List KnownLayout) (x : KnownLayout) → test x ≡ true → (y : KnownLayout) × (find test (xs ++ x ∷ []) ≡ Some y)
ends_found test xs x e =
    let f : (y : KnownLayout) × (option_or (find test xs) (if test x then Some x else None) ≡ Some y) = ends_of x (find test xs) (test x) e in
    (f.0, find-append test xs (x ∷ []) ∙ f.1)

-- the structs behind one that passes the test make no difference
pub settled : (test : KnownLayout → Bool) (structs : List StructDef) (i : ℕ) (s : StructDef) (known : List KnownLayout) → s ≡ get_or structs i s → i < length structs → known ≡ struct_layouts [] (take i structs) → test (entry known s) ≡ true →
    find test (known ++ entry known s ∷ []) ≡ find test (struct_layouts [] structs)
settled test structs i s known e l k t =
    let f : (y : KnownLayout) × (find test (known ++ entry known s ∷ []) ≡ Some y) = ends_found test known (entry known s) t in
    let up : struct_layouts [] (take (i + 1) structs) ≡ known ++ entry known s ∷ [] = layouts_next structs i s e l ∙ ap (λ ks. ks ++ entry ks s ∷ []) (sym k) in
    let all : struct_layouts (known ++ entry known s ∷ []) (drop (i + 1) structs) ≡ struct_layouts [] structs =
    ap (λ ks. struct_layouts ks (drop (i + 1) structs)) (sym up) ∙ sym (layouts_append (take (i + 1) structs) (drop (i + 1) structs) []) ∙ ap (struct_layouts []) (take-append-drop (i + 1) structs) in
    f.1 ∙ sym (found_stays test f.0 (drop (i + 1) structs) (known ++ entry known s ∷ []) f.1) ∙ ap (find test) all

-- ---- declarations whose shapes are looked up alike

pub plain_same : (known more : List KnownLayout) (d : Decl) (scalar : Scalar) → d.shape ≡ Plain scalar → decl_layout known d ≡ decl_layout more d
plain_same known more d scalar e =
    ap (array_layout (count_of d.length)) (ap (shape_layout known) e ∙ sym (ap (shape_layout more) e))

pub named_same : (known more : List KnownLayout) (d : Decl) (name : List ℕ) → d.shape ≡ Named name → find (λ k. bytes_eq k.name name) known ≡ find (λ k. bytes_eq k.name name) more → decl_layout known d ≡ decl_layout more d
named_same known more d name e f =
    ap (array_layout (count_of d.length)) (ap (shape_layout known) e ∙ ap known_layout f ∙ sym (ap (shape_layout more) e))

-- ---- every layout

layouts_are : (ss : List StructDef) (known : List KnownLayout) → All (λ (k : KnownLayout). IsLayout k.layout) known → All (λ (k : KnownLayout). IsLayout k.layout) (struct_layouts known ss)
layouts_are [] known h = h
layouts_are (s ∷ ss) known h =
    layouts_are ss (known ++ record { name = s.name; layout = with_fields known empty_layout s.fields } ∷ [])
    (All-push (λ (k : KnownLayout). IsLayout k.layout) known _ h (fields_is known s.fields empty_layout h empty_is))

-- slots begin within the size, and the alignment is from 1 to 8
pub layout_is : (structs : List StructDef) (d : Decl) → IsLayout (layout_of structs d)
unfolding layout_of
layout_is structs d = decl_is (struct_layouts [] structs) d (layouts_are structs [] (All-nil (λ (k : KnownLayout). IsLayout k.layout)))
