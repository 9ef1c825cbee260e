-- Memory has at most one slot of an object and an offset: the slots of a layout lie one behind the other, and each variable is there once.
use Rattle.std.proofs.Common.{◌≡◌, ℕ, zero, suc, ◌+◌, ◌*◌, ◌<◌, ◌≤◌, arith, List, [], ◌∷◌, ◌++◌, map, refl, sym, ap, subst, Option, Some, All, find, slice_index_or, if◌then◌else◌, Bool, true, false}
use Rattle.std.specs.List.{flat_map, AllByRecursion, AllPairs}
use Rattle.std.specs.Str.{bytes_eq}
use Rattle.std.proofs.lemmas.List.Elements.{All-nil, All-cons, All-head, All-tail, All-append, All-push, All-weaker, All-map}
use Rattle.std.proofs.lemmas.List.Kept.{AllPairs-cons}
use Rattle.gimple_ir.specs.declared.value.Object.{Object}
use Rattle.gimple_ir.specs.declared.value.Object.TheVariants.{Global as GlobalObject, Local as LocalObject}
use Rattle.gimple_ir.specs.declared.value.LayoutSlot.{LayoutSlot}
use Rattle.gimple_ir.specs.declared.value.Layout.{Layout}
use Rattle.gimple_ir.specs.declared.declarations.Decl.{Decl}
use Rattle.gimple_ir.specs.declared.declarations.Shape.{Shape}
use Rattle.gimple_ir.specs.declared.declarations.Shape.TheVariants.{Plain, Named}
use Rattle.gimple_ir.specs.declared.declarations.StructDef.{StructDef}
use Rattle.gimple_ir.specs.declared.declarations.Global.{Global}
use Rattle.gimple_core.specs.declared.machine.MemorySlot.{MemorySlot}
use Rattle.gimple_core.specs.Layout.{KnownLayout, empty_layout, round_up, moved, known_layout, shape_layout, repeated, count_of, decl_layout, with_field, with_fields, struct_layouts, layout_of, IsLayout}
use Rattle.gimple_core.specs.State.{Control}
use Rattle.gimple_core.proofs.LayoutLemmas.{round_up-least, repeated_within, empty_is, plain_is, array_is, field_is, fields_is}
use Rattle.gimple_claims.specs.Shapes.{Variable, global_variables, local_variables, frame_variables, controls, variables_of, SlotKey, key_of, keys_of, SlotsAreOnce}
use Rattle.gimple_claims.proofs.Shapes.{Descends, memory_is_laid_out, frames_descend}

-- ---- what holds of any two items of a list

module _ {X : Type 0} (R : X → X → Type 0) where
  -- of each item and each later one
  abbrev pub Pairs : List X → Type 0
  Pairs [] = Unit {0}
  Pairs (x ∷ xs) = All (R x) xs × Pairs xs

  pub pairs_append : (xs ys : List X) → Pairs xs → Pairs ys → All (λ x. All (R x) ys) xs → Pairs (xs ++ ys)
  pairs_append [] ys h k both = k
  pairs_append (x ∷ xs) ys h k both =
      (All-append (R x) xs ys h.0 (All-head (λ x. All (R x) ys) x xs both), pairs_append xs ys h.1 k (All-tail (λ x. All (R x) ys) x xs both))

  pub all_pairs : (xs : List X) → Pairs xs → AllPairs R xs
  all_pairs [] h = λ i j d less within. absurd (omega (arith, within))
  all_pairs (x ∷ xs) h = AllPairs-cons R x xs h.0 (all_pairs xs h.1)

-- ---- the slots of a layout

abbrev IsBehind : LayoutSlot → LayoutSlot → Type 0
IsBehind s t = s.offset < t.offset

-- a layout whose slots lie one behind the other, all within its size
record IsSpread (l : Layout) : Type 0 where
  is : IsLayout l
  order : Pairs IsBehind l.slots

moved_order : (by : ℕ) (slots : List LayoutSlot) → Pairs IsBehind slots → Pairs IsBehind (moved by slots)
moved_order by [] h = tt
moved_order by (s ∷ ss) h = (
  All-map (λ (t : LayoutSlot). by + s.offset < t.offset) (λ (t : LayoutSlot). record { offset = by + t.offset; scalar = t.scalar }) ss
      (All-weaker (IsBehind s) (λ (t : LayoutSlot). by + s.offset < by + t.offset) (λ t l. let less : s.offset < t.offset = l in omega (arith, less)) ss h.0),
  moved_order by ss h.1,
)

moved_behind : (by n : ℕ) (slots : List LayoutSlot) → n ≤ by → All (λ (t : LayoutSlot). n ≤ t.offset) (moved by slots)
moved_behind by n [] l = All-nil (λ (t : LayoutSlot). n ≤ t.offset)
moved_behind by n (s ∷ ss) l = All-cons (λ (t : LayoutSlot). n ≤ t.offset) _ _ (omega (arith, l)) (moved_behind by n ss l)

then_order : (n : ℕ) (xs ys : List LayoutSlot) → Pairs IsBehind xs → Pairs IsBehind ys → All (λ (s : LayoutSlot). s.offset < n) xs → All (λ (t : LayoutSlot). n ≤ t.offset) ys → Pairs IsBehind (xs ++ ys)
then_order n xs ys h k less more =
    pairs_append IsBehind xs ys h k
    (All-weaker (λ (s : LayoutSlot). s.offset < n) (λ (s : LayoutSlot). All (IsBehind s) ys)
    (λ s a. All-weaker (λ (t : LayoutSlot). n ≤ t.offset) (IsBehind s) (λ t b. let low : s.offset < n = a in let high : n ≤ t.offset = b in omega (arith, low, high)) ys more) xs less)

repeated_order : (k n : ℕ) (slots : List LayoutSlot) → All (λ (s : LayoutSlot). s.offset < n) slots → Pairs IsBehind slots → Pairs IsBehind (repeated k n slots)
repeated_order zero n slots w h = tt
repeated_order (suc k) n slots w h =
    then_order (k * n) (repeated k n slots) (moved (k * n) slots) (repeated_order k n slots w h) (moved_order (k * n) slots h) (repeated_within k n slots w)
    (moved_behind (k * n) (k * n) slots (omega arith))

empty_spread : IsSpread empty_layout
empty_spread = record { is = empty_is; order = tt }

one_order : (s : LayoutSlot) → Pairs IsBehind (s ∷ [])
one_order s = (All-nil (IsBehind s), tt)

found_by : (x : KnownLayout) (o : Option KnownLayout) (b : Bool) → IsSpread x.layout → IsSpread (known_layout o) → IsSpread (known_layout (if b then Some x else o))
found_by x o true h more = h
found_by x o false h more = more

found_spread : (test : KnownLayout → Bool) (known : List KnownLayout) → All (λ (k : KnownLayout). IsSpread k.layout) known → IsSpread (known_layout (find test known))
found_spread test [] h = empty_spread
found_spread test (x ∷ xs) h = found_by x (find test xs) (test x) (All-head (λ (k : KnownLayout). IsSpread k.layout) x xs h) (found_spread test xs (All-tail (λ (k : KnownLayout). IsSpread k.layout) x xs h))

shape_spread : (known : List KnownLayout) (shape : Shape) → All (λ (k : KnownLayout). IsSpread k.layout) known → IsSpread (shape_layout known shape)
shape_spread known (Plain scalar) h = record { is = plain_is known scalar; order = one_order (record { offset = 0; scalar = scalar }) }
shape_spread known (Named name) h = found_spread (λ k. bytes_eq k.name name) known h

decl_spread : (known : List KnownLayout) (d : Decl) → All (λ (k : KnownLayout). IsSpread k.layout) known → IsSpread (decl_layout known d)
decl_spread known d h =
    let one : IsSpread (shape_layout known d.shape) = shape_spread known d.shape h in
    record { is = array_is (count_of d.length) (shape_layout known d.shape) one.is; order = repeated_order (count_of d.length) (shape_layout known d.shape).size (shape_layout known d.shape).slots one.is.slots one.order }

field_spread : (l f : Layout) → IsSpread l → IsSpread f → IsSpread (with_field l f)
field_spread l f h k = record {
  is = field_is l f h.is k.is;
  order = then_order l.size l.slots (moved (round_up l.size f.align) f.slots) h.order (moved_order (round_up l.size f.align) f.slots k.order) h.is.slots
      (moved_behind (round_up l.size f.align) l.size f.slots (round_up-least l.size f.align k.is.least));
}

layouts_known : (known : List KnownLayout) → All (λ (k : KnownLayout). IsSpread k.layout) known → All (λ (k : KnownLayout). IsLayout k.layout) known
layouts_known known h = All-weaker (λ (k : KnownLayout). IsSpread k.layout) (λ (k : KnownLayout). IsLayout k.layout) (λ k s. s.is) known h

fields_spread : (known : List KnownLayout) (fs : List Decl) (l : Layout) → All (λ (k : KnownLayout). IsSpread k.layout) known → IsSpread l → IsSpread (with_fields known l fs)
fields_spread known [] l h k = record { is = fields_is known [] l (layouts_known known h) k.is; order = k.order }
fields_spread known (f ∷ fs) l h k = fields_spread known fs (with_field l (decl_layout known f)) h (field_spread l (decl_layout known f) k (decl_spread known f h))

layouts_spread : (ss : List StructDef) (known : List KnownLayout) → All (λ (k : KnownLayout). IsSpread k.layout) known → All (λ (k : KnownLayout). IsSpread k.layout) (struct_layouts known ss)
layouts_spread [] known h = h
layouts_spread (s ∷ ss) known h =
    layouts_spread ss (known ++ record { name = s.name; layout = with_fields known empty_layout s.fields } ∷ [])
    (All-push (λ (k : KnownLayout). IsSpread k.layout) known _ h (fields_spread known s.fields empty_layout h empty_spread))

-- the slots of a variable lie one behind the other
pub layout_order : (structs : List StructDef) (d : Decl) → Pairs IsBehind (layout_of structs d).slots
unfolding layout_of
layout_order structs d =
    let l : IsSpread (decl_layout (struct_layouts [] structs) d) = decl_spread (struct_layouts [] structs) d (layouts_spread structs [] (All-nil (λ (k : KnownLayout). IsSpread k.layout))) in
    l.order

-- ---- the slots of variables

abbrev Apart : SlotKey → SlotKey → Type 0
Apart a b = a.object ≡ b.object → a.offset ≡ b.offset → ⊥

abbrev Others : Variable → Variable → Type 0
Others v w = v.object ≡ w.object → ⊥

abbrev key_at : Object → LayoutSlot → SlotKey
key_at object s = record { object = object; offset = s.offset; scalar = s.scalar }

own_apart : (object : Object) (ss : List LayoutSlot) → Pairs IsBehind ss → Pairs Apart (map (key_at object) ss)
own_apart object [] h = tt
own_apart object (s ∷ ss) h = (
  All-map (Apart (key_at object s)) (key_at object) ss
      (All-weaker (IsBehind s) (λ (t : LayoutSlot). Apart (key_at object s) (key_at object t)) (λ t l same here. let less : s.offset < t.offset = l in absurd (omega (arith, less, here))) ss h.0),
  own_apart object ss h.1,
)

-- the key is of none of these variables
of_none : (structs : List StructDef) (k : SlotKey) (vs : List Variable) → All (λ (w : Variable). k.object ≡ w.object → ⊥) vs → All (Apart k) (flat_map (keys_of structs) vs)
of_none structs k [] h = All-nil (Apart k)
of_none structs k (v ∷ vs) h =
    let other : k.object ≡ v.object → ⊥ = All-head (λ (w : Variable). k.object ≡ w.object → ⊥) v vs h in
    All-append (Apart k) (keys_of structs v) (flat_map (keys_of structs) vs)
    (All-map (Apart k) (key_at v.object) (layout_of structs v.decl).slots (λ i d l same here. other same))
    (of_none structs k vs (All-tail (λ (w : Variable). k.object ≡ w.object → ⊥) v vs h))

pub keys_apart : (structs : List StructDef) (vs : List Variable) → Pairs Others vs → Pairs Apart (flat_map (keys_of structs) vs)
keys_apart structs [] h = tt
keys_apart structs (v ∷ vs) h =
    pairs_append Apart (keys_of structs v) (flat_map (keys_of structs) vs) (own_apart v.object (layout_of structs v.decl).slots (layout_order structs v.decl)) (keys_apart structs vs h.1)
    (All-map (λ (k : SlotKey). All (Apart k) (flat_map (keys_of structs) vs)) (key_at v.object) (layout_of structs v.decl).slots
    (λ i d l. of_none structs (key_at v.object (slice_index_or (layout_of structs v.decl).slots i d)) vs h.0))

-- ---- each variable is there once

abbrev number_of : Object → ℕ
number_of (GlobalObject k) = k
number_of (LocalObject serial k) = k

abbrev serial_of : Object → ℕ
serial_of (GlobalObject k) = 0
serial_of (LocalObject serial k) = serial

abbrev is_local : Object → Bool
is_local (GlobalObject k) = false
is_local (LocalObject serial k) = true

-- from this number on
abbrev IsGlobalFrom : ℕ → Variable → Type 0
IsGlobalFrom n v = (is_local v.object ≡ false) × (n ≤ number_of v.object)

abbrev IsLocalFrom : ℕ → ℕ → Variable → Type 0
IsLocalFrom serial n v = (is_local v.object ≡ true) × (serial_of v.object ≡ serial) × (n ≤ number_of v.object)

globals_from : (n k : ℕ) (gs : List Global) → n ≤ k → All (IsGlobalFrom n) (global_variables k gs)
globals_from n k [] l = All-nil (IsGlobalFrom n)
globals_from n k (g ∷ gs) l = All-cons (IsGlobalFrom n) _ _ (refl, l) (globals_from n (k + 1) gs (omega (arith, l)))

locals_from : (serial n k : ℕ) (ds : List Decl) → n ≤ k → All (IsLocalFrom serial n) (local_variables serial k ds)
locals_from serial n k [] l = All-nil (IsLocalFrom serial n)
locals_from serial n k (d ∷ ds) l = All-cons (IsLocalFrom serial n) _ _ (refl, refl, l) (locals_from serial n (k + 1) ds (omega (arith, l)))

past_number : (a b : Object) (k : ℕ) → number_of a ≡ k → k + 1 ≤ number_of b → a ≡ b → ⊥
past_number a b k e l same = let numbers : number_of a ≡ number_of b = ap number_of same in absurd (omega (arith, e, l, numbers))

globals_once : (k : ℕ) (gs : List Global) → Pairs Others (global_variables k gs)
globals_once k [] = tt
globals_once k (g ∷ gs) = (
  All-weaker (IsGlobalFrom (k + 1)) (Others (record { object = GlobalObject k; decl = g.decl; constant = g.constant })) (λ w h. past_number (GlobalObject k) w.object k refl h.1) (global_variables (k + 1) gs) (globals_from (k + 1) (k + 1) gs (omega arith)),
  globals_once (k + 1) gs,
)

locals_once : (serial k : ℕ) (ds : List Decl) → Pairs Others (local_variables serial k ds)
locals_once serial k [] = tt
locals_once serial k (d ∷ ds) = (
  All-weaker (IsLocalFrom serial (k + 1)) (Others (record { object = LocalObject serial k; decl = d; constant = false })) (λ w h. past_number (LocalObject serial k) w.object k refl h.2) (local_variables serial (k + 1) ds)
      (locals_from serial (k + 1) (k + 1) ds (omega arith)),
  locals_once serial (k + 1) ds,
)

-- locals of frames with a serial below this one
abbrev IsLocalBelow : ℕ → Variable → Type 0
IsLocalBelow n v = (is_local v.object ≡ true) × (serial_of v.object < n)

frames_below : (n : ℕ) (cs : List Control) → AllByRecursion (λ (c : Control). c.serial < n) cs → All (IsLocalBelow n) (frame_variables cs)
frames_below n [] h = All-nil (IsLocalBelow n)
frames_below n (c ∷ cs) h =
    let less : c.serial < n = h.0 in
    All-append (IsLocalBelow n) (frame_variables cs) (local_variables c.serial 0 c.function.locals) (frames_below n cs h.1)
    (All-weaker (IsLocalFrom c.serial 0) (IsLocalBelow n) (λ w k. (k.0, (let same : serial_of w.object ≡ c.serial = k.1 in omega (arith, less, same)))) _ (locals_from c.serial 0 0 c.function.locals (omega arith)))

other_serial : (a b : Object) (n : ℕ) → serial_of a < n → serial_of b ≡ n → a ≡ b → ⊥
other_serial a b n l e same = let serials : serial_of a ≡ serial_of b = ap serial_of same in absurd (omega (arith, l, e, serials))

frames_once : (cs : List Control) → Descends cs → Pairs Others (frame_variables cs)
frames_once [] h = tt
frames_once (c ∷ cs) h =
    pairs_append Others (frame_variables cs) (local_variables c.serial 0 c.function.locals) (frames_once cs h.1) (locals_once c.serial 0 c.function.locals)
    (All-weaker (IsLocalBelow c.serial) (λ (v : Variable). All (Others v) (local_variables c.serial 0 c.function.locals))
    (λ v k. All-weaker (IsLocalFrom c.serial 0) (Others v) (λ w m. other_serial v.object w.object c.serial k.1 m.1) _ (locals_from c.serial 0 0 c.function.locals (omega arith)))
    (frame_variables cs) (frames_below c.serial cs h.0))

other_kind : (a b : Object) → is_local a ≡ false → is_local b ≡ true → a ≡ b → ⊥
other_kind a b e f same = let kinds : is_local a ≡ is_local b = ap is_local same in cc

-- the frames' locals are some frames' locals, whatever their serials
frames_local : (cs : List Control) → All (λ (v : Variable). is_local v.object ≡ true) (frame_variables cs)
frames_local [] = All-nil (λ (v : Variable). is_local v.object ≡ true)
frames_local (c ∷ cs) =
    All-append (λ (v : Variable). is_local v.object ≡ true) (frame_variables cs) (local_variables c.serial 0 c.function.locals) (frames_local cs)
    (All-weaker (IsLocalFrom c.serial 0) (λ (v : Variable). is_local v.object ≡ true) (λ w k. k.0) _ (locals_from c.serial 0 0 c.function.locals (omega arith)))

variables_once : (globals : List Global) (cs : List Control) → Descends cs → Pairs Others (global_variables 0 globals ++ frame_variables cs)
variables_once globals cs h =
    pairs_append Others (global_variables 0 globals) (frame_variables cs) (globals_once 0 globals) (frames_once cs h)
    (All-weaker (IsGlobalFrom 0) (λ (v : Variable). All (Others v) (frame_variables cs))
    (λ v k. All-weaker (λ (w : Variable). is_local w.object ≡ true) (Others v) (λ w m. other_kind v.object w.object k.0 m) (frame_variables cs) (frames_local cs))
    (global_variables 0 globals) (globals_from 0 0 globals (omega arith)))

-- ---- the slots of memory

abbrev DifferentSlots : MemorySlot → MemorySlot → Type 0
DifferentSlots x y = x.object ≡ y.object → x.offset ≡ y.offset → ⊥

unmapped : (x : MemorySlot) (xs : List MemorySlot) → All (Apart (key_of x)) (map key_of xs) → All (DifferentSlots x) xs
unmapped x [] h = All-nil (DifferentSlots x)
unmapped x (y ∷ ys) h = All-cons (DifferentSlots x) y ys (All-head (Apart (key_of x)) (key_of y) (map key_of ys) h) (unmapped x ys (All-tail (Apart (key_of x)) (key_of y) (map key_of ys) h))

slots_apart : (xs : List MemorySlot) → Pairs Apart (map key_of xs) → Pairs DifferentSlots xs
slots_apart [] h = tt
slots_apart (x ∷ xs) h = (unmapped x xs h.0, slots_apart xs h.1)

pub slots_are_once : SlotsAreOnce
slots_are_once p input past s c =
    let laid = memory_is_laid_out p input past s c in
    let keys : Pairs Apart (flat_map (keys_of p.program.structs) (variables_of p.program s)) = keys_apart p.program.structs (variables_of p.program s) (variables_once p.program.globals (controls s) (frames_descend p input past s c)) in
    all_pairs DifferentSlots s.world.memory.slots (slots_apart s.world.memory.slots (subst (Pairs Apart) (sym laid.slots) keys))
