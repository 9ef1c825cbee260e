-- The globals and the locals of the frames live, with the slots of their layouts.
use Rattle.std.proofs.Common.{◌≡◌, ℕ, ◌+◌, ◌<◌, ◌==◌, ℤ, Bool, true, false, cond, arith, List, [], ◌∷◌, ◌++◌, map, refl, sym, ◌∙◌, ap, subst, Option, Some, None, filter, append_assoc, append-nil}
use Rattle.std.specs.List.{flat_map, AllByRecursion}
use Rattle.std.proofs.lemmas.Bool.{eqb-true, eq-eqb}
use Rattle.std.proofs.lemmas.List.{map-append}
use Rattle.std.proofs.lemmas.List.Elements.{filter-append}
use Rattle.std.proofs.lemmas.Grind.{flat_map-append}
use Rattle.gimple_ir.specs.declared.value.Value.{Value}
use Rattle.gimple_ir.specs.declared.value.Object.{Object}
use Rattle.gimple_ir.specs.declared.value.Object.TheVariants.{Global as GlobalObject, Local as LocalObject}
use Rattle.gimple_ir.specs.declared.value.LayoutSlot.{LayoutSlot}
use Rattle.gimple_ir.specs.declared.declarations.Decl.{Decl}
use Rattle.gimple_ir.specs.declared.declarations.StructDef.{StructDef}
use Rattle.gimple_ir.specs.declared.declarations.Global.{Global}
use Rattle.gimple_ir.specs.declared.block.Block.{Block}
use Rattle.gimple_ir.specs.declared.program.Function.{Function}
use Rattle.gimple_core.specs.declared.machine.MemorySlot.{MemorySlot}
use Rattle.gimple_core.specs.declared.machine.Extent.{Extent}
use Rattle.gimple_core.specs.Sealed.{Sealed}
use Rattle.gimple_core.specs.Layout.{layout_of}
use Rattle.gimple_core.specs.Memory.{Memory, is_elsewhere, is_slot, without_frame}
use Rattle.gimple_core.specs.State.{Control, Frame, World, State, setting_of, scope_of}
use Rattle.gimple_core.specs.Run.{Did, filled, item_value, with_object, with_globals, with_locals, no_memory, first_memory, begun, begun_by, function_named, main_name, step, start}
use Rattle.gimple_core.specs.Trace.{Event, after, told, main_entry}
use Rattle.gimple_claims.specs.Runs.{Comes}
use Rattle.gimple_claims.specs.Shapes.{Variable, global_variables, local_variables, frame_variables, controls, variables_of, SlotKey, key_of, extent_of, keys_of, IsLaidOut, MemoryIsLaidOut}
use Rattle.gimple_claims.proofs.Comes.{InDid, holds_with}
use Rattle.gimple_claims.proofs.Lists.{map_updated}
use Rattle.gimple_claims.proofs.Acts.{Acts, assigns, takes, prints, stores, acts_is}
use Rattle.gimple_claims.proofs.Steps.{Steps, acts, calls, jumps, leaves, stops, traps, step_is, OlderFrames, older}

-- ---- variables that begin

keys_filled : (object : Object) (ss : List LayoutSlot) (vs : List Value) → map key_of (filled object ss vs) ≡ map (λ s. record { object = object; offset = s.offset; scalar = s.scalar }) ss
keys_filled object [] vs = refl
keys_filled object (s ∷ ss) [] = ap (λ ks. record { object = object; offset = s.offset; scalar = s.scalar } ∷ ks) (keys_filled object ss [])
keys_filled object (s ∷ ss) (v ∷ vs) = ap (λ ks. record { object = object; offset = s.offset; scalar = s.scalar } ∷ ks) (keys_filled object ss vs)

with_variable : (structs : List StructDef) (xs : List Variable) (v : Variable) (m : Memory) (values : List Value) → IsLaidOut structs xs m → IsLaidOut structs (xs ++ v ∷ []) (with_object m v.object (layout_of structs v.decl) v.constant values)
with_variable structs xs v m values h = record {
  living = ap (λ ys. ys ++ extent_of structs v ∷ []) h.living ∙ sym (map-append (extent_of structs) xs (v ∷ []));
  slots = map-append key_of m.slots (filled v.object (layout_of structs v.decl).slots values)
      ∙ (ap (λ ys. ys ++ map key_of (filled v.object (layout_of structs v.decl).slots values)) h.slots
      ∙ (ap (λ ys. flat_map (keys_of structs) xs ++ ys) (keys_filled v.object (layout_of structs v.decl).slots values ∙ sym (append-nil (keys_of structs v)))
      ∙ sym (flat_map-append (keys_of structs) xs (v ∷ []))));
}

moved_in : (structs : List StructDef) (xs : List Variable) (v : Variable) (ys : List Variable) (m : Memory) → IsLaidOut structs ((xs ++ v ∷ []) ++ ys) m → IsLaidOut structs (xs ++ v ∷ ys) m
moved_in structs xs v ys m h = subst (λ zs. IsLaidOut structs zs m) (append_assoc xs (v ∷ []) ys) h

pub locals_laid : (structs : List StructDef) (serial k : ℕ) (ds : List Decl) (xs : List Variable) (m : Memory) → IsLaidOut structs xs m → IsLaidOut structs (xs ++ local_variables serial k ds) (with_locals structs serial k ds m)
unfolding with_locals
locals_laid structs serial k [] xs m h = subst (λ zs. IsLaidOut structs zs m) (sym (append-nil xs)) h
locals_laid structs serial k (d ∷ ds) xs m h =
    let v : Variable = record { object = LocalObject serial k; decl = d; constant = false } in
    let n : Memory = with_object m (LocalObject serial k) (layout_of structs d) false [] in
    moved_in structs xs v (local_variables serial (k + 1) ds) (with_locals structs serial (k + 1) ds n)
    (locals_laid structs serial (k + 1) ds (xs ++ v ∷ []) n (with_variable structs xs v m [] h))

globals_laid : (structs : List StructDef) (all : List Global) (k : ℕ) (gs : List Global) (xs : List Variable) (m : Memory) → IsLaidOut structs xs m → IsLaidOut structs (xs ++ global_variables k gs) (with_globals structs all k gs m)
unfolding with_globals
globals_laid structs all k [] xs m h = subst (λ zs. IsLaidOut structs zs m) (sym (append-nil xs)) h
globals_laid structs all k (g ∷ gs) xs m h =
    let v : Variable = record { object = GlobalObject k; decl = g.decl; constant = g.constant } in
    let n : Memory = with_object m (GlobalObject k) (layout_of structs g.decl) g.constant (map (item_value all) g.items) in
    moved_in structs xs v (global_variables (k + 1) gs) (with_globals structs all (k + 1) gs n)
    (globals_laid structs all (k + 1) gs (xs ++ v ∷ []) n (with_variable structs xs v m (map (item_value all) g.items) h))

-- ---- variables of a frame that returns

abbrev stays : ℕ → Variable → Bool
stays serial v = is_elsewhere serial v.object

extents_kept : (structs : List StructDef) (serial : ℕ) (xs : List Variable) → filter (λ (x : Extent). is_elsewhere serial x.object) (map (extent_of structs) xs) ≡ map (extent_of structs) (filter (stays serial) xs)
extents_kept structs serial [] = refl
extents_kept structs serial (v ∷ xs) = by (stays serial v) (extents_kept structs serial xs)
  where
    by : (b : Bool) → filter (λ (x : Extent). is_elsewhere serial x.object) (map (extent_of structs) xs) ≡ map (extent_of structs) (filter (stays serial) xs) →
        cond b (extent_of structs v ∷ filter (λ (x : Extent). is_elsewhere serial x.object) (map (extent_of structs) xs)) (filter (λ (x : Extent). is_elsewhere serial x.object) (map (extent_of structs) xs))
        ≡ map (extent_of structs) (cond b (v ∷ filter (stays serial) xs) (filter (stays serial) xs))
    by true e = ap (λ ys. extent_of structs v ∷ ys) e
    by false e = e

keys_filtered : (serial : ℕ) (ss : List MemorySlot) → map key_of (filter (λ (s : MemorySlot). is_elsewhere serial s.object) ss) ≡ filter (λ (k : SlotKey). is_elsewhere serial k.object) (map key_of ss)
keys_filtered serial [] = refl
keys_filtered serial (s ∷ ss) = by (is_elsewhere serial s.object) (keys_filtered serial ss)
  where
    by : (b : Bool) → map key_of (filter (λ (r : MemorySlot). is_elsewhere serial r.object) ss) ≡ filter (λ (k : SlotKey). is_elsewhere serial k.object) (map key_of ss) →
        map key_of (cond b (s ∷ filter (λ (r : MemorySlot). is_elsewhere serial r.object) ss) (filter (λ (r : MemorySlot). is_elsewhere serial r.object) ss))
        ≡ cond b (key_of s ∷ filter (λ (k : SlotKey). is_elsewhere serial k.object) (map key_of ss)) (filter (λ (k : SlotKey). is_elsewhere serial k.object) (map key_of ss))
    by true e = ap (λ ys. key_of s ∷ ys) e
    by false e = e

abbrev laid_at : Object → List LayoutSlot → List SlotKey
laid_at object ss = map (λ s. record { object = object; offset = s.offset; scalar = s.scalar }) ss

one_kept : (serial : ℕ) (object : Object) (ss : List LayoutSlot) → is_elsewhere serial object ≡ true → filter (λ (k : SlotKey). is_elsewhere serial k.object) (laid_at object ss) ≡ laid_at object ss
one_kept serial object [] e = refl
one_kept serial object (s ∷ ss) e = rw e (ap (λ ks. record { object = object; offset = s.offset; scalar = s.scalar } ∷ ks) (one_kept serial object ss e))

one_gone : (serial : ℕ) (object : Object) (ss : List LayoutSlot) → is_elsewhere serial object ≡ false → filter (λ (k : SlotKey). is_elsewhere serial k.object) (laid_at object ss) ≡ []
one_gone serial object [] e = refl
one_gone serial object (s ∷ ss) e = rw e (one_gone serial object ss e)

keys_kept : (structs : List StructDef) (serial : ℕ) (xs : List Variable) → filter (λ (k : SlotKey). is_elsewhere serial k.object) (flat_map (keys_of structs) xs) ≡ flat_map (keys_of structs) (filter (stays serial) xs)
keys_kept structs serial [] = refl
keys_kept structs serial (v ∷ xs) =
    filter-append (λ (k : SlotKey). is_elsewhere serial k.object) (keys_of structs v) (flat_map (keys_of structs) xs)
    ∙ by (stays serial v) refl (keys_kept structs serial xs)
  where
    by : (b : Bool) → is_elsewhere serial v.object ≡ b → filter (λ (k : SlotKey). is_elsewhere serial k.object) (flat_map (keys_of structs) xs) ≡ flat_map (keys_of structs) (filter (stays serial) xs) →
        filter (λ (k : SlotKey). is_elsewhere serial k.object) (keys_of structs v) ++ filter (λ (k : SlotKey). is_elsewhere serial k.object) (flat_map (keys_of structs) xs)
        ≡ flat_map (keys_of structs) (cond b (v ∷ filter (stays serial) xs) (filter (stays serial) xs))
    by true e more = ap (λ ks. ks ++ filter (λ (k : SlotKey). is_elsewhere serial k.object) (flat_map (keys_of structs) xs)) (one_kept serial v.object (layout_of structs v.decl).slots e) ∙ ap (λ ks. keys_of structs v ++ ks) more
    by false e more = ap (λ ks. ks ++ filter (λ (k : SlotKey). is_elsewhere serial k.object) (flat_map (keys_of structs) xs)) (one_gone serial v.object (layout_of structs v.decl).slots e) ∙ more

without_laid : (structs : List StructDef) (serial : ℕ) (xs : List Variable) (m : Memory) → IsLaidOut structs xs m → IsLaidOut structs (filter (stays serial) xs) (without_frame serial m)
unfolding without_frame
without_laid structs serial xs m h = record {
  living = ap (filter (λ (x : Extent). is_elsewhere serial x.object)) h.living ∙ extents_kept structs serial xs;
  slots = keys_filtered serial m.slots ∙ (ap (filter (λ (k : SlotKey). is_elsewhere serial k.object)) h.slots ∙ keys_kept structs serial xs);
}

globals_stay : (serial k : ℕ) (gs : List Global) → filter (stays serial) (global_variables k gs) ≡ global_variables k gs
globals_stay serial k [] = refl
globals_stay serial k (g ∷ gs) = ap (λ vs. record { object = GlobalObject k; decl = g.decl; constant = g.constant } ∷ vs) (globals_stay serial (k + 1) gs)

own_go : (serial k : ℕ) (ds : List Decl) → filter (stays serial) (local_variables serial k ds) ≡ []
own_go serial k [] = refl
own_go serial k (d ∷ ds) = rw (eq-eqb serial serial refl) (own_go serial (k + 1) ds)

other_stay : (n serial k : ℕ) (ds : List Decl) → (serial == n) ≡ false → filter (stays n) (local_variables serial k ds) ≡ local_variables serial k ds
other_stay n serial k [] e = refl
other_stay n serial k (d ∷ ds) e = rw e (ap (λ vs. record { object = LocalObject serial k; decl = d; constant = false } ∷ vs) (other_stay n serial (k + 1) ds e))

differ : (serial n : ℕ) → serial < n → (b : Bool) → (serial == n) ≡ b → b ≡ false
differ serial n l true e = let same : serial ≡ n = eqb-true serial n e in absurd (omega (arith, same, l))
differ serial n l false e = refl

-- each frame has a serial above those of the frames below it
abbrev pub Descends : List Control → Type 0
Descends [] = Unit {0}
Descends (c ∷ cs) = AllByRecursion (λ (d : Control). d.serial < c.serial) cs × Descends cs

lower_stay : (n : ℕ) (cs : List Control) → AllByRecursion (λ (d : Control). d.serial < n) cs → filter (stays n) (frame_variables cs) ≡ frame_variables cs
lower_stay n [] h = refl
lower_stay n (c ∷ cs) h =
    filter-append (stays n) (frame_variables cs) (local_variables c.serial 0 c.function.locals)
    ∙ (ap (λ vs. vs ++ filter (stays n) (local_variables c.serial 0 c.function.locals)) (lower_stay n cs h.1)
    ∙ ap (λ vs. frame_variables cs ++ vs) (other_stay n c.serial 0 c.function.locals (differ c.serial n h.0 (c.serial == n) refl)))

frame_goes : (globals : List Global) (c : Control) (cs : List Control) → AllByRecursion (λ (d : Control). d.serial < c.serial) cs →
    filter (stays c.serial) (global_variables 0 globals ++ frame_variables (c ∷ cs)) ≡ global_variables 0 globals ++ frame_variables cs
frame_goes globals c cs h =
    filter-append (stays c.serial) (global_variables 0 globals) (frame_variables (c ∷ cs))
    ∙ (ap (λ vs. vs ++ filter (stays c.serial) (frame_variables (c ∷ cs))) (globals_stay c.serial 0 globals)
    ∙ ap (λ vs. global_variables 0 globals ++ vs)
    (filter-append (stays c.serial) (frame_variables cs) (local_variables c.serial 0 c.function.locals)
    ∙ (ap (λ vs. vs ++ filter (stays c.serial) (local_variables c.serial 0 c.function.locals)) (lower_stay c.serial cs h)
    ∙ (ap (λ vs. frame_variables cs ++ vs) (own_go c.serial 0 c.function.locals) ∙ append-nil (frame_variables cs)))))

-- ---- the whole run

record Laid (p : Sealed) (past : List Event) (s : State) : Type 0 where
  memory : IsLaidOut p.program.structs (variables_of p.program s) s.world.memory
  order : Descends (controls s)

acted_laid : (structs : List StructDef) (vs : List Variable) (m w : World) → Acts m w → IsLaidOut structs vs m.memory → IsLaidOut structs vs w.memory
acted_laid structs vs m _ (assigns to v) h = h
acted_laid structs vs m _ (takes to v) h = h
acted_laid structs vs m _ (prints output) h = h
acted_laid structs vs m _ (stores at scalar v f e c) h = record {
  living = h.living;
  slots = map_updated key_of (is_slot f.object f.offset scalar) (λ (s : MemorySlot). record s { value = v }) (λ s. refl) m.memory.slots ∙ h.slots;
}

frames_older : (n : ℕ) (fs : List Frame) → OlderFrames n fs → AllByRecursion (λ (d : Control). d.serial < n) (map (λ (f : Frame). f.control) fs)
frames_older n [] h = tt
frames_older n (f ∷ fs) h = (h.0, frames_older n fs h.1)

laid_did : (p : Sealed) (input : List ℤ) (past : List Event) (s : State) → Comes p input past s → Laid p past s → (d : Did) → Steps p s d → InDid (Laid p (after past (told p s))) d
laid_did p input past s c h _ (acts x xs w e n r) = record {
  memory = acted_laid p.program.structs (variables_of p.program s) s.world w (acts_is (setting_of p) (scope_of s.top) x s.world w r) h.memory;
  order = h.order;
}
laid_did p input past s c h _ (calls x xs d g b bs e n f y) =
    let o = older p input past s c in
    record {
      memory = subst (λ zs. IsLaidOut p.program.structs zs (with_locals p.program.structs s.next 0 g.locals s.world.memory))
          (append_assoc (global_variables 0 p.program.globals) (frame_variables (controls s)) (local_variables s.next 0 g.locals))
          (locals_laid p.program.structs s.next 0 g.locals (variables_of p.program s) s.world.memory h.memory);
      order = ((o.top, frames_older s.next s.below o.below), h.order);
    }
laid_did p input past s c h _ (jumps label k b e x f) = record { memory = h.memory; order = h.order }
laid_did p input past s c h _ (leaves v f fs e x y) =
    let order : Descends (s.top ∷ map (λ (r : Frame). r.control) (f ∷ fs)) = subst (λ rs. Descends (s.top ∷ map (λ (r : Frame). r.control) rs)) y h.order in
    let memory : IsLaidOut p.program.structs (global_variables 0 p.program.globals ++ frame_variables (s.top ∷ map (λ (r : Frame). r.control) (f ∷ fs))) s.world.memory =
    subst (λ rs. IsLaidOut p.program.structs (global_variables 0 p.program.globals ++ frame_variables (s.top ∷ map (λ (r : Frame). r.control) rs)) s.world.memory) y h.memory in
    record {
      memory = subst (λ zs. IsLaidOut p.program.structs zs (without_frame s.top.serial s.world.memory))
          (frame_goes p.program.globals s.top (map (λ (r : Frame). r.control) (f ∷ fs)) order.0)
          (without_laid p.program.structs s.top.serial _ s.world.memory memory);
      order = order.1;
    }
laid_did p input past s c h _ (stops o z) = tt
laid_did p input past s c h _ (traps o k) = tt

abbrev LaidFirst : Sealed → Option State → Type 0
LaidFirst p None = Unit {0}
LaidFirst p (Some s) = Laid p [] s

begun_laid : (p : Sealed) (input : List ℤ) (f : Function) (bs : List Block) → LaidFirst p (begun p.program input f bs)
begun_laid p input f [] = tt
begun_laid p input f (b ∷ bs) = record {
  memory = locals_laid p.program.structs 0 0 f.locals (global_variables 0 p.program.globals) (first_memory p.program)
      (globals_laid p.program.structs p.program.globals 0 p.program.globals [] no_memory (record { living = refl; slots = refl }));
  order = (tt, tt);
}

start_laid : (p : Sealed) (input : List ℤ) (o : Option Function) → LaidFirst p (begun_by p.program input o)
start_laid p input None = tt
start_laid p input (Some f) = begun_laid p input f f.blocks

begins_laid : (p : Sealed) (input : List ℤ) (s : State) → start p input ≡ Some s → Laid p (main_entry p s ∷ []) s
begins_laid p input s e =
    let h : Laid p [] s = subst (LaidFirst p) e (start_laid p input (function_named main_name p.program.functions)) in
    record { memory = h.memory; order = h.order }

pub memory_is_laid_out : MemoryIsLaidOut
memory_is_laid_out p input past s c =
    let h : Laid p past s = holds_with p input (Laid p) (begins_laid p input) (λ past s c h. laid_did p input past s c h (step p s) (step_is p s)) past s c in
    h.memory

pub frames_descend : (p : Sealed) (input : List ℤ) (past : List Event) (s : State) → Comes p input past s → Descends (controls s)
frames_descend p input past s c =
    let h : Laid p past s = holds_with p input (Laid p) (begins_laid p input) (λ past s c h. laid_did p input past s c h (step p s) (step_is p s)) past s c in
    h.order
