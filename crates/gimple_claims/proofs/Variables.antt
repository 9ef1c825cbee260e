-- Variables live, have the slots of their layouts, and accesses to these slots find them.
use Rattle.std.proofs.Common.{◌≡◌, ℕ, zero, suc, ◌+◌, ◌<◌, ◌==◌, ◌&&◌, ◌||◌, ℤ, pos, Bool, true, false, arith, List, [], ◌∷◌, ◌++◌, map, length, refl, sym, ◌∙◌, ap, subst, Some, None, All, nat_lt, if◌then◌else◌, slice_get, slice_index_or}
use Rattle.std.specs.List.{find, list_any, flat_map, AllByRecursion}
use Rattle.std.specs.Option.{option_or, option_map}
use Rattle.std.proofs.lemmas.Bool.{eqb-true, eq-eqb, lt-ltb}
use Rattle.std.proofs.lemmas.List.Elements.{All-head, All-tail}
use Rattle.gimple_ir.specs.declared.scalar.Scalar.{Scalar}
use Rattle.gimple_ir.specs.declared.value.Object.{Object}
use Rattle.gimple_ir.specs.declared.value.Object.TheVariants.{Global as GlobalObject, Local as LocalObject}
use Rattle.gimple_ir.specs.declared.value.LayoutSlot.{LayoutSlot}
use Rattle.gimple_ir.specs.declared.declarations.Decl.{Decl}
use Rattle.gimple_ir.specs.declared.declarations.StructDef.{StructDef}
use Rattle.gimple_ir.specs.declared.declarations.Global.{Global}
use Rattle.gimple_core.specs.declared.machine.Extent.{Extent}
use Rattle.gimple_core.specs.declared.machine.MemorySlot.{MemorySlot}
use Rattle.gimple_core.specs.Sealed.{Sealed}
use Rattle.gimple_core.specs.Layout.{layout_of}
use Rattle.gimple_core.specs.Memory.{same_object, same_scalar, is_slot, found_at, found_extent}
use Rattle.gimple_core.specs.State.{Control, State}
use Rattle.gimple_core.specs.Statements.{is_slot_at, has_slot}
use Rattle.gimple_core.specs.Trace.{Event}
use Rattle.gimple_core.proofs.LayoutLemmas.{layout_is}
use Rattle.gimple_claims.specs.Runs.{Comes}
use Rattle.gimple_claims.specs.Shapes.{Variable, global_variables, local_variables, frame_variables, controls, variables_of, SlotKey, key_of, extent_of, keys_of}
use Rattle.gimple_claims.specs.Variables.{IsVariableOf, global, local, VariablesLive, VariablesHaveSlots, AccessesFindSlots}
use Rattle.gimple_claims.proofs.Shapes.{Descends, frames_descend, memory_is_laid_out}

-- ---- layouts

both_true : (a b : Bool) → a && b ≡ true → (a ≡ true) × (b ≡ true)
both_true true b e = (refl, e)
both_true false b e = cc

slot_within : (n offset : ℕ) (scalar : Scalar) (ss : List LayoutSlot) → All (λ (s : LayoutSlot). s.offset < n) ss → list_any (is_slot_at (pos offset) scalar) ss ≡ true → offset < n
slot_within n offset scalar [] h e = cc
slot_within n offset scalar (s ∷ ss) h e =
    by ((s.offset == offset) && same_scalar s.scalar scalar) refl e (All-head (λ (s : LayoutSlot). s.offset < n) s ss h) (slot_within n offset scalar ss (All-tail (λ (s : LayoutSlot). s.offset < n) s ss h))
  where
    by : (b : Bool) → (s.offset == offset) && same_scalar s.scalar scalar ≡ b → b || list_any (is_slot_at (pos offset) scalar) ss ≡ true → s.offset < n → (list_any (is_slot_at (pos offset) scalar) ss ≡ true → offset < n) → offset < n
    by true t e less more = let same : s.offset ≡ offset = eqb-true s.offset offset (both_true (s.offset == offset) (same_scalar s.scalar scalar) t).0 in omega (arith, same, less)
    by false t e less more = more e

-- ---- which variable an object is

find_end : {X : Type 0} (test : X → Bool) (xs ys : List X) → find test (xs ++ ys) ≡ option_or (find test xs) (find test ys)
find_end test [] ys = refl
find_end test (x ∷ xs) ys = by (test x) (find_end test xs ys)
  where
    by : (b : Bool) → find test (xs ++ ys) ≡ option_or (find test xs) (find test ys) → (if b then Some x else find test (xs ++ ys)) ≡ option_or (if b then Some x else find test xs) (find test ys)
    by true e = refl
    by false e = e

abbrev is_object : Object → Variable → Bool
is_object object v = same_object v.object object

differ : (n m : ℕ) → (n ≡ m → ⊥) → (b : Bool) → (n == m) ≡ b → b ≡ false
differ n m h true e = absurd (h (eqb-true n m e))
differ n m h false e = refl

local_at : (serial j : ℕ) (d : Decl) (i k : ℕ) (ds : List Decl) → j ≡ k + i → slice_get ds i ≡ Some d → find (is_object (LocalObject serial j)) (local_variables serial k ds) ≡ Some (record { object = LocalObject serial j; decl = d; constant = false })
local_at serial j d i k [] n e = cc
local_at serial j d zero k (x ∷ ds) n e =
    let same : x ≡ d = cc in
    let here : k ≡ j = omega (arith, n) in
    rw (eq-eqb serial serial refl, eq-eqb k j here) (λ i. Some (record { object = LocalObject serial (here i); decl = same i; constant = false }))
local_at serial j d (suc i) k (x ∷ ds) n e =
    let other : (k == j) ≡ false = differ k j (λ same. absurd (omega (arith, n, same))) (k == j) refl in
    rw (eq-eqb serial serial refl, other) (local_at serial j d i (k + 1) ds (omega (arith, n)) e)

other_locals : (serial j n k : ℕ) (ds : List Decl) → (n ≡ serial → ⊥) → find (is_object (LocalObject serial j)) (local_variables n k ds) ≡ None
other_locals serial j n k [] h = refl
other_locals serial j n k (d ∷ ds) h = rw (differ n serial h (n == serial) refl) (other_locals serial j n (k + 1) ds h)

no_globals : (serial j k : ℕ) (gs : List Global) → find (is_object (LocalObject serial j)) (global_variables k gs) ≡ None
no_globals serial j k [] = refl
no_globals serial j k (g ∷ gs) = no_globals serial j (k + 1) gs

lower_frames : (serial j : ℕ) (cs : List Control) → AllByRecursion (λ (c : Control). c.serial < serial) cs → find (is_object (LocalObject serial j)) (frame_variables cs) ≡ None
lower_frames serial j [] h = refl
lower_frames serial j (c ∷ cs) h =
    let less : c.serial < serial = h.0 in
    find_end (is_object (LocalObject serial j)) (frame_variables cs) (local_variables c.serial 0 c.function.locals)
    ∙ rw (lower_frames serial j cs h.1) (other_locals serial j c.serial 0 c.function.locals (λ same. absurd (omega (arith, less, same))))

frame_at : (c : Control) (j : ℕ) (d : Decl) (cs : List Control) (i : ℕ) → i < length cs → slice_index_or cs i c ≡ c → Descends cs → slice_get c.function.locals j ≡ Some d →
    find (is_object (LocalObject c.serial j)) (frame_variables cs) ≡ Some (record { object = LocalObject c.serial j; decl = d; constant = false })
frame_at c j d [] i l e h f = absurd (omega (arith, l))
frame_at c j d (x ∷ cs) zero l e h f =
    subst (λ (y : Control). find (is_object (LocalObject c.serial j)) (frame_variables (y ∷ cs)) ≡ Some (record { object = LocalObject c.serial j; decl = d; constant = false })) (sym e)
    (find_end (is_object (LocalObject c.serial j)) (frame_variables cs) (local_variables c.serial 0 c.function.locals)
    ∙ rw (lower_frames c.serial j cs (subst (λ (y : Control). AllByRecursion (λ (r : Control). r.serial < y.serial) cs) e h.0)) (local_at c.serial j d j 0 c.function.locals (omega arith) f))
frame_at c j d (x ∷ cs) (suc i) l e h f =
    find_end (is_object (LocalObject c.serial j)) (frame_variables cs) (local_variables x.serial 0 x.function.locals)
    ∙ rw (frame_at c j d cs i (omega (arith, l)) e h.1 f) refl

global_at : (j : ℕ) (g : Global) (i k : ℕ) (gs : List Global) → j ≡ k + i → slice_get gs i ≡ Some g → find (is_object (GlobalObject j)) (global_variables k gs) ≡ Some (record { object = GlobalObject j; decl = g.decl; constant = g.constant })
global_at j g i k [] n e = cc
global_at j g zero k (x ∷ gs) n e =
    let same : x ≡ g = cc in
    let here : k ≡ j = omega (arith, n) in
    rw (eq-eqb k j here) (λ i. Some (record { object = GlobalObject (here i); decl = (same i).decl; constant = (same i).constant }))
global_at j g (suc i) k (x ∷ gs) n e =
    let other : (k == j) ≡ false = differ k j (λ same. absurd (omega (arith, n, same))) (k == j) refl in
    rw other (global_at j g i (k + 1) gs (omega (arith, n)) e)

variable_is : (p : Sealed) (s : State) → Descends (controls s) → (object : Object) (d : Decl) (constant : Bool) → IsVariableOf p.program s object d constant →
    find (is_object object) (variables_of p.program s) ≡ Some (record { object = object; decl = d; constant = constant })
variable_is p s h _ _ _ (global k g e) =
    find_end (is_object (GlobalObject k)) (global_variables 0 p.program.globals) (frame_variables (controls s)) ∙ rw (global_at k g k 0 p.program.globals (omega arith) e) refl
variable_is p s h _ _ _ (local c k d there e) =
    find_end (is_object (LocalObject c.serial k)) (global_variables 0 p.program.globals) (frame_variables (controls s))
    ∙ rw (no_globals c.serial k 0 p.program.globals) (frame_at c k d (controls s) there.0 there.1 there.2 h e)

-- ---- its extent

find_mapped : (structs : List StructDef) (object : Object) (vs : List Variable) → find (λ (x : Extent). same_object x.object object) (map (extent_of structs) vs) ≡ option_map (extent_of structs) (find (is_object object) vs)
find_mapped structs object [] = refl
find_mapped structs object (v ∷ vs) = by (is_object object v) (find_mapped structs object vs)
  where
    by : (b : Bool) → find (λ (x : Extent). same_object x.object object) (map (extent_of structs) vs) ≡ option_map (extent_of structs) (find (is_object object) vs) →
        (if b then Some (extent_of structs v) else find (λ (x : Extent). same_object x.object object) (map (extent_of structs) vs)) ≡ option_map (extent_of structs) (if b then Some v else find (is_object object) vs)
    by true e = refl
    by false e = e

pub variables_live : VariablesLive
variables_live p input past s c object d constant v =
    let laid = memory_is_laid_out p input past s c in
    ap (find (λ (x : Extent). same_object x.object object)) laid.living
    ∙ (find_mapped p.program.structs object (variables_of p.program s) ∙ ap (option_map (extent_of p.program.structs)) (variable_is p s (frames_descend p input past s c) object d constant v))

-- ---- its slots

abbrev is_key : Object → ℕ → Scalar → SlotKey → Bool
is_key object offset scalar k = same_object k.object object && (k.offset == offset) && same_scalar k.scalar scalar

same_itself : (object : Object) → same_object object object ≡ true
same_itself (GlobalObject k) = eq-eqb k k refl
same_itself (LocalObject serial k) = rw (eq-eqb serial serial refl) (eq-eqb k k refl)

any_keys : (object : Object) (offset : ℕ) (scalar : Scalar) (ss : List LayoutSlot) → list_any (is_slot_at (pos offset) scalar) ss ≡ true →
    list_any (is_key object offset scalar) (map (λ s. record { object = object; offset = s.offset; scalar = s.scalar }) ss) ≡ true
any_keys object offset scalar [] e = cc
any_keys object offset scalar (s ∷ ss) e = by ((s.offset == offset) && same_scalar s.scalar scalar) refl e (any_keys object offset scalar ss)
  where
    by : (b : Bool) → (s.offset == offset) && same_scalar s.scalar scalar ≡ b → b || list_any (is_slot_at (pos offset) scalar) ss ≡ true →
        (list_any (is_slot_at (pos offset) scalar) ss ≡ true → list_any (is_key object offset scalar) (map (λ s. record { object = object; offset = s.offset; scalar = s.scalar }) ss) ≡ true) →
        (is_key object offset scalar (record { object = object; offset = s.offset; scalar = s.scalar }) || list_any (is_key object offset scalar) (map (λ s. record { object = object; offset = s.offset; scalar = s.scalar }) ss)) ≡ true
    by true t e more = let h = both_true (s.offset == offset) (same_scalar s.scalar scalar) t in rw (same_itself object, h.0, h.1) refl
    by false t e more = rw (more e) (or_true (is_key object offset scalar (record { object = object; offset = s.offset; scalar = s.scalar })))
      where
        or_true : (b : Bool) → b || true ≡ true
        or_true true = refl
        or_true false = refl

or_later : (a b : Bool) → b ≡ true → a || b ≡ true
or_later true b e = refl
or_later false b e = e

any_append : {X : Type 0} (test : X → Bool) (xs ys : List X) → list_any test xs ≡ true → list_any test (xs ++ ys) ≡ true
any_append test [] ys e = cc
any_append test (x ∷ xs) ys e = by (test x) e (any_append test xs ys)
  where
    by : (b : Bool) → b || list_any test xs ≡ true → (list_any test xs ≡ true → list_any test (xs ++ ys) ≡ true) → b || list_any test (xs ++ ys) ≡ true
    by true f more = refl
    by false f more = more f

any_behind : {X : Type 0} (test : X → Bool) (xs ys : List X) → list_any test ys ≡ true → list_any test (xs ++ ys) ≡ true
any_behind test [] ys e = e
any_behind test (x ∷ xs) ys e = or_later (test x) _ (any_behind test xs ys e)

any_variable : (structs : List StructDef) (test : SlotKey → Bool) (object : Object) (v : Variable) (vs : List Variable) → find (is_object object) vs ≡ Some v → list_any test (keys_of structs v) ≡ true → list_any test (flat_map (keys_of structs) vs) ≡ true
any_variable structs test object v [] e h = cc
any_variable structs test object v (x ∷ vs) e h = by (is_object object x) e (λ f. any_variable structs test object v vs f h)
  where
    by : (b : Bool) → (if b then Some x else find (is_object object) vs) ≡ Some v → (find (is_object object) vs ≡ Some v → list_any test (flat_map (keys_of structs) vs) ≡ true) → list_any test (keys_of structs x ++ flat_map (keys_of structs) vs) ≡ true
    by true f more = let same : x ≡ v = cc in any_append test (keys_of structs x) (flat_map (keys_of structs) vs) (subst (λ (y : Variable). list_any test (keys_of structs y) ≡ true) (sym same) h)
    by false f more = any_behind test (keys_of structs x) (flat_map (keys_of structs) vs) (more f)

any_mapped : (object : Object) (offset : ℕ) (scalar : Scalar) (ss : List MemorySlot) → list_any (is_key object offset scalar) (map key_of ss) ≡ list_any (is_slot object offset scalar) ss
any_mapped object offset scalar [] = refl
any_mapped object offset scalar (s ∷ ss) = ap (λ b. is_slot object offset scalar s || b) (any_mapped object offset scalar ss)

any_found : {X : Type 0} (test : X → Bool) (xs : List X) → list_any test xs ≡ true → (y : X) × (find test xs ≡ Some y)
any_found test [] e = cc
any_found {X} test (x ∷ xs) e = by (test x) e (any_found test xs)
  where
    by : (b : Bool) → b || list_any test xs ≡ true → (list_any test xs ≡ true → (y : X) × (find test xs ≡ Some y)) → (y : X) × ((if b then Some x else find test xs) ≡ Some y)
    by true f more = (x, refl)
    by false f more = more f

slot_there : (p : Sealed) (input : List ℤ) (past : List Event) (s : State) → Comes p input past s → (object : Object) (d : Decl) (constant : Bool) → IsVariableOf p.program s object d constant →
    (offset : ℕ) (scalar : Scalar) → has_slot (layout_of p.program.structs d).slots (pos offset) scalar ≡ true → (x : MemorySlot) × (find (is_slot object offset scalar) s.world.memory.slots ≡ Some x)
slot_there p input past s c object d constant v offset scalar h =
    let laid = memory_is_laid_out p input past s c in
    let there = any_variable p.program.structs (is_key object offset scalar) object (record { object = object; decl = d; constant = constant }) (variables_of p.program s)
    (variable_is p s (frames_descend p input past s c) object d constant v) (any_keys object offset scalar (layout_of p.program.structs d).slots h) in
    any_found (is_slot object offset scalar) s.world.memory.slots (sym (any_mapped object offset scalar s.world.memory.slots) ∙ (ap (list_any (is_key object offset scalar)) laid.slots ∙ there))

pub variables_have_slots : VariablesHaveSlots
variables_have_slots p input past s c object d constant v offset scalar h =
    let there = slot_there p input past s c object d constant v offset scalar h in
    (there.0.value, ap (option_map (λ (x : MemorySlot). x.value)) there.1)

pub accesses_find_slots : AccessesFindSlots
unfolding found_at
accesses_find_slots p input past s c object d constant v offset scalar h =
    let there = slot_there p input past s c object d constant v offset scalar h in
    let within : nat_lt offset (layout_of p.program.structs d).size ≡ true = lt-ltb _ _ (slot_within (layout_of p.program.structs d).size offset scalar (layout_of p.program.structs d).slots (layout_is p.program.structs d).slots h) in
    (there.0.value, ap (found_extent s.world.memory.slots object (pos offset) scalar) (variables_live p input past s c object d constant v) ∙ rw (within, there.1) refl)
