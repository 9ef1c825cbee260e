-- Registers, slots and objects that are made one after another.
use Rattle.std.proofs.Common.{◌≡◌, ◌∙◌, ap, sym, refl, ℕ, zero, suc, false, map, ◌+◌, ◌<◌, ◌≤◌, List, [], ◌∷◌, ◌++◌, length, drop, get_or, slice_get, unwrap_or, Option, Some, None, append_assoc, append-nil, add-one, drop-cons}
use Rattle.std.proofs.Math.ListN.{drop_of_length-le}
use Rattle.gimple_ir.specs.declared.value.Value.{Value}
use Rattle.gimple_core.specs.State.{zero_of}
use Rattle.gimple_ir.specs.declared.value.Object.{Object}
use Rattle.gimple_ir.specs.declared.value.Object.TheVariants.{Local, Global as GlobalObject}
use Rattle.gimple_ir.specs.declared.value.LayoutSlot.{LayoutSlot}
use Rattle.gimple_ir.specs.declared.declarations.Decl.{Decl}
use Rattle.gimple_ir.specs.declared.declarations.Global.{Global}
use Rattle.gimple_ir.specs.declared.declarations.StructDef.{StructDef}
use Rattle.gimple_core.specs.declared.machine.MemorySlot.{MemorySlot}
use Rattle.gimple_core.specs.Memory.{Memory}
use Rattle.gimple_core.specs.Layout.{layout_of}
use Rattle.gimple_ir.specs.declared.declarations.Register.{Register}
use Rattle.gimple_core.specs.Run.{values_made, filled, with_object, with_locals, with_globals, item_value}

-- ---- the registers of a call that begins

pub values_more : (values : List Value) (rs : List Register) (vs : List Value) (k : ℕ) (x : Register) → k < length rs → x ≡ get_or rs k x → (values ++ unwrap_or (slice_get vs k) (zero_of x.scalar) ∷ []) ++ values_made (drop (k + 1) rs) vs (k + 1) ≡ values ++ values_made (drop k rs) vs k
unfolding values_made
values_more values rs vs k x l e =
    let f : drop k rs ≡ x ∷ drop (suc k) rs = drop-cons rs k x l ∙ ap (λ (y : Register). y ∷ drop (suc k) rs) (sym e) in
    rw (f, add-one, append_assoc) refl

pub values_all : (values : List Value) (rs : List Register) (vs : List Value) (k : ℕ) → length rs ≤ k → values ++ values_made (drop k rs) vs k ≡ values
unfolding values_made
values_all values rs vs k l = rw (drop_of_length-le rs l, append-nil) refl

-- ---- the slots of an object, and the objects of a frame and of a program, one more at a time

filled_head : (object : Object) (s : LayoutSlot) (ss : List LayoutSlot) (vs : List Value) (k : ℕ) → filled object (s ∷ ss) (drop k vs) ≡ record { object = object; offset = s.offset; scalar = s.scalar; value = unwrap_or (slice_get vs k) (zero_of s.scalar) } ∷ filled object ss (drop (suc k) vs)
filled_head object s ss [] zero = refl
filled_head object s ss [] (suc k) = refl
filled_head object s ss (v ∷ vs) zero = refl
filled_head object s ss (v ∷ vs) (suc k) = filled_head object s ss vs k

pub filled_more : (slots : List MemorySlot) (object : Object) (ss : List LayoutSlot) (vs : List Value) (k : ℕ) (d : LayoutSlot) → k < length ss → (slots ++ record { object = object; offset = (get_or ss k d).offset; scalar = (get_or ss k d).scalar; value = unwrap_or (slice_get vs k) (zero_of (get_or ss k d).scalar) } ∷ []) ++ filled object (drop (k + 1) ss) (drop (k + 1) vs) ≡ slots ++ filled object (drop k ss) (drop k vs)
filled_more slots object ss vs k d l =
    rw (drop-cons ss k d l, add-one, append_assoc) (ap (λ ys. slots ++ ys) (sym (filled_head object (get_or ss k d) (drop (suc k) ss) vs k)))

pub filled_all : (slots : List MemorySlot) (object : Object) (ss : List LayoutSlot) (vs : List Value) (k : ℕ) → length ss ≤ k → slots ++ filled object (drop k ss) (drop k vs) ≡ slots
filled_all slots object ss vs k l = rw (drop_of_length-le ss l, append-nil) refl

pub locals_more : (structs : List StructDef) (serial k : ℕ) (ds : List Decl) (m : Memory) (d : Decl) → k < length ds → d ≡ get_or ds k d → with_locals structs serial (k + 1) (drop (k + 1) ds) (with_object m (Local serial k) (layout_of structs d) false []) ≡ with_locals structs serial k (drop k ds) m
unfolding with_locals
locals_more structs serial k ds m d l e =
    let f : drop k ds ≡ d ∷ drop (suc k) ds = drop-cons ds k d l ∙ ap (λ (y : Decl). y ∷ drop (suc k) ds) (sym e) in
    ap (λ n. with_locals structs serial (k + 1) (drop n ds) (with_object m (Local serial k) (layout_of structs d) false [])) (add-one k)
    ∙ ap (λ xs. with_locals structs serial k xs m) (sym f)

pub locals_all : (structs : List StructDef) (serial k : ℕ) (ds : List Decl) (m : Memory) → length ds ≤ k → with_locals structs serial k (drop k ds) m ≡ m
unfolding with_locals
locals_all structs serial k ds m l = rw (drop_of_length-le ds l) refl

pub globals_more : (structs : List StructDef) (all : List Global) (k : ℕ) (gs : List Global) (m : Memory) (g : Global) → k < length gs → g ≡ get_or gs k g → with_globals structs all (k + 1) (drop (k + 1) gs) (with_object m (GlobalObject k) (layout_of structs g.decl) g.constant (map (item_value all) g.items)) ≡ with_globals structs all k (drop k gs) m
unfolding with_globals
globals_more structs all k gs m g l e =
    let f : drop k gs ≡ g ∷ drop (suc k) gs = drop-cons gs k g l ∙ ap (λ (y : Global). y ∷ drop (suc k) gs) (sym e) in
    ap (λ n. with_globals structs all (k + 1) (drop n gs) (with_object m (GlobalObject k) (layout_of structs g.decl) g.constant (map (item_value all) g.items))) (add-one k)
    ∙ ap (λ xs. with_globals structs all k xs m) (sym f)

pub globals_all : (structs : List StructDef) (all : List Global) (k : ℕ) (gs : List Global) (m : Memory) → length gs ≤ k → with_globals structs all k (drop k gs) m ≡ m
unfolding with_globals
globals_all structs all k gs m l = rw (drop_of_length-le gs l) refl

abbrev no_values : List Value
no_values = []

no_value : (n : ℕ) → slice_get no_values n ≡ None
no_value zero = refl
no_value (suc n) = refl

pub others_more : (values : List Value) (rs : List Register) (k : ℕ) (x : Register) → k < length rs → x ≡ get_or rs k x → (values ++ zero_of x.scalar ∷ []) ++ values_made (drop (k + 1) rs) [] (k + 1) ≡ values ++ values_made (drop k rs) [] k
others_more values rs k x l e = ap (λ (o : Option Value). (values ++ unwrap_or o (zero_of x.scalar) ∷ []) ++ values_made (drop (k + 1) rs) [] (k + 1)) (sym (no_value k)) ∙ values_more values rs [] k x l e

-- an argument, by its place
pub argument_there : {X : Type 0} (f : X → Value) (xs : List X) (k : ℕ) (x : X) (z : Value) → slice_get xs k ≡ Some x → f x ≡ unwrap_or (slice_get (map f xs) k) z
argument_there f [] zero x z e = cc
argument_there f [] (suc k) x z e = cc
argument_there f (y ∷ ys) zero x z e = let same : y ≡ x = cc in ap f (sym same)
argument_there f (y ∷ ys) (suc k) x z e = argument_there f ys k x z e

pub argument_past : {X : Type 0} (f : X → Value) (xs : List X) (k : ℕ) (z : Value) → slice_get xs k ≡ None → z ≡ unwrap_or (slice_get (map f xs) k) z
argument_past f [] zero z e = refl
argument_past f [] (suc k) z e = refl
argument_past f (y ∷ ys) zero z e = cc
argument_past f (y ∷ ys) (suc k) z e = argument_past f ys k z e
