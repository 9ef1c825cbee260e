-- The globals live throughout a run, and the slots of a read-only one hold its items.
use Rattle.std.proofs.Common.{◌≡◌, ℕ, zero, suc, ◌+◌, ◌==◌, ◌&&◌, ◌<◌, ◌++◌, ℤ, Bool, true, false, List, [], ◌∷◌, map, filter, refl, sym, ◌∙◌, ap, subst, arith, Option, Some, None, slice_get}
use Rattle.std.specs.List.{find}
use Rattle.std.proofs.lemmas.Bool.{eqb-true, eq-eqb}
use Rattle.std.proofs.lemmas.List.Elements.{filter-append}
use Rattle.std.proofs.lemmas.List.Folds.{find-append}
use Rattle.gimple_ir.specs.declared.scalar.Scalar.{Scalar}
use Rattle.gimple_ir.specs.declared.declarations.Global.{Global as GlobalDef}
use Rattle.gimple_ir.specs.declared.declarations.StructDef.{StructDef}
use Rattle.gimple_ir.specs.declared.value.LayoutSlot.{LayoutSlot}
use Rattle.gimple_ir.specs.declared.value.Value.{Value}
use Rattle.gimple_ir.specs.declared.value.Object.{Object}
use Rattle.gimple_ir.specs.declared.value.Object.TheVariants.{Global, Local}
use Rattle.gimple_ir.specs.declared.block.Block.{Block}
use Rattle.gimple_ir.specs.declared.program.Function.{Function}
use Rattle.gimple_core.specs.Sealed.{Sealed}
use Rattle.gimple_core.specs.declared.machine.Extent.{Extent}
use Rattle.gimple_core.specs.declared.machine.MemorySlot.{MemorySlot}
use Rattle.gimple_core.specs.declared.machine.FoundSlot.{FoundSlot}
use Rattle.gimple_core.specs.Layout.{layout_of}
use Rattle.gimple_core.specs.Memory.{Memory, same_object, same_scalar, is_slot, is_elsewhere, without_frame, put_slot}
use Rattle.gimple_core.specs.State.{World, State, scope_of, setting_of, zero_of}
use Rattle.gimple_core.specs.Run.{Did, step, filled, item_value, with_object, with_globals, with_locals, no_memory, first_memory, function_named, main_name, begun, begun_by}
use Rattle.gimple_core.specs.Trace.{Event, told, after}
use Rattle.gimple_core.proofs.Dropping.{first_kept}
use Rattle.gimple_claims.specs.Laws.{slots_of, HoldsGlobal, GlobalsHold}
use Rattle.gimple_claims.proofs.Comes.{InDid, holds}
use Rattle.gimple_claims.proofs.Steps.{Steps, acts, calls, jumps, leaves, stops, traps, step_is}
use Rattle.gimple_claims.proofs.Acts.{Acts, assigns, takes, prints, stores, acts_is, FoundOf, found_lives}
use Rattle.gimple_claims.proofs.Lists.{both_true, filter_kept, filter_updated, find_more}
use Rattle.gimple_claims.proofs.Locals.{locals_find, locals_slots, object_slots}

first_true : (a b c : Bool) → a && b && c ≡ true → a ≡ true
first_true true b c e = refl
first_true false b c e = cc

-- an object that passes the test of another one is that one
pub same_object_true : (o r : Object) → same_object o r ≡ true → o ≡ r
same_object_true (Global k) (Global j) e = ap Global (eqb-true k j e)
same_object_true (Global k) (Local s j) e = cc
same_object_true (Local s k) (Global j) e = cc
same_object_true (Local s k) (Local t j) e =
    let h = both_true (s == t) (k == j) e in
    let a : s ≡ t = eqb-true s t h.0 in
    let b : k ≡ j = eqb-true k j h.1 in
    λ i. Local (a i) (b i)

module _ (k : ℕ) where
  abbrev test : Object → Bool
  test o = same_object o (Global k)

  -- ---- a store goes elsewhere

  other_of : (f : FoundSlot) (living : List Extent) (x : Extent) → FoundOf living f → f.constant ≡ false → find (λ (x : Extent). test x.object) living ≡ Some x → x.constant ≡ true → (b : Bool) → test f.object ≡ b → b ≡ false
  other_of f living x o c l r false e = refl
  other_of f living x o c l r true e =
      let object : f.object ≡ Global k = same_object_true f.object (Global k) e in
      let found : find (λ (y : Extent). test y.object) living ≡ Some o.extent = subst (λ (z : Object). find (λ (y : Extent). same_object y.object z) living ≡ Some o.extent) object o.lives in
      let both : Some x ≡ Some o.extent = sym l ∙ found in
      let same : x ≡ o.extent = cc in
      let constant : o.extent.constant ≡ true = ap (λ (y : Extent). y.constant) (sym same) ∙ r in
      let free : o.extent.constant ≡ false = o.constant ∙ c in
      cc

  put_elsewhere : (f : FoundSlot) (scalar : Scalar) (v : Value) (slots : List MemorySlot) → test f.object ≡ false → filter (λ (x : MemorySlot). test x.object) (put_slot slots f.object f.offset scalar v) ≡ filter (λ (x : MemorySlot). test x.object) slots
  put_elsewhere f scalar v slots e =
      filter_updated (λ (x : MemorySlot). test x.object) (is_slot f.object f.offset scalar) (λ s. record s { value = v })
      (λ x g.
      let same : x.object ≡ f.object = same_object_true x.object f.object (first_true (same_object x.object f.object) (x.offset == f.offset) (same_scalar x.scalar scalar) g) in
      let other : test x.object ≡ false = ap test same ∙ e in
      (other, other)) slots

  acted_living : (m w : World) → Acts m w → w.memory.living ≡ m.memory.living
  acted_living m _ (assigns to v) = refl
  acted_living m _ (takes to v) = refl
  acted_living m _ (prints output) = refl
  acted_living m _ (stores at scalar v f e c) = refl

  acted_slots : (m w : World) (x : Extent) → find (λ (y : Extent). test y.object) m.memory.living ≡ Some x → x.constant ≡ true → Acts m w → slots_of k w.memory ≡ slots_of k m.memory
  acted_slots m _ x l r (assigns to v) = refl
  acted_slots m _ x l r (takes to v) = refl
  acted_slots m _ x l r (prints output) = refl
  acted_slots m _ x l r (stores at scalar v f e c) =
      put_elsewhere f scalar v m.memory.slots (other_of f m.memory.living x (found_lives m.memory at scalar f e) c l r (test f.object) refl)

  -- ---- a frame returns

  global_elsewhere : (serial : ℕ) (o : Object) → test o ≡ true → is_elsewhere serial o ≡ true
  global_elsewhere serial (Global j) e = refl
  global_elsewhere serial (Local s j) e = cc

  -- ---- the globals of the first memory

  later_false : (j : ℕ) → k < j → (b : Bool) → (j == k) ≡ b → b ≡ false
  later_false j l false e = refl
  later_false j l true e = let same : j ≡ k = eqb-true j k e in absurd (omega (arith, same, l))

  earlier_false : (j i : ℕ) → k ≡ j + suc i → (b : Bool) → (j == k) ≡ b → b ≡ false
  earlier_false j i l false e = refl
  earlier_false j i l true e = let same : j ≡ k = eqb-true j k e in absurd (omega (arith, same, l))

  later_find : (structs : List StructDef) (all : List GlobalDef) (j : ℕ) (gs : List GlobalDef) (m : Memory) → k < j → find (λ (x : Extent). test x.object) (with_globals structs all j gs m).living ≡ find (λ (x : Extent). test x.object) m.living
  unfolding with_globals
  later_find structs all j [] m l = refl
  later_find structs all j (g ∷ gs) m l =
      later_find structs all (j + 1) gs (with_object m (Global j) (layout_of structs g.decl) g.constant (map (item_value all) g.items)) (omega (arith, l))
      ∙ find_more (λ (x : Extent). test x.object) m.living _ (later_false j l (j == k) refl)

  later_slots : (structs : List StructDef) (all : List GlobalDef) (j : ℕ) (gs : List GlobalDef) (m : Memory) → k < j → slots_of k (with_globals structs all j gs m) ≡ slots_of k m
  unfolding with_globals
  later_slots structs all j [] m l = refl
  later_slots structs all j (g ∷ gs) m l =
      later_slots structs all (j + 1) gs (with_object m (Global j) (layout_of structs g.decl) g.constant (map (item_value all) g.items)) (omega (arith, l))
      ∙ object_slots test m (Global j) (layout_of structs g.decl) g.constant (map (item_value all) g.items) (later_false j l (j == k) refl)

  filled_all : (slots : List LayoutSlot) (vs : List Value) → filter (λ (x : MemorySlot). test x.object) (filled (Global k) slots vs) ≡ filled (Global k) slots vs
  filled_all [] vs = refl
  filled_all (s ∷ slots) [] =
      let x : MemorySlot = record { object = Global k; offset = s.offset; scalar = s.scalar; value = zero_of s.scalar } in
      rw (eq-eqb k k refl) (ap (λ ys. x ∷ ys) (filled_all slots []))
  filled_all (s ∷ slots) (v ∷ vs) =
      let x : MemorySlot = record { object = Global k; offset = s.offset; scalar = s.scalar; value = v } in
      rw (eq-eqb k k refl) (ap (λ ys. x ∷ ys) (filled_all slots vs))

  record Made (structs : List StructDef) (all : List GlobalDef) (g : GlobalDef) (m : Memory) : Type 0 where
    lives : find (λ (x : Extent). test x.object) m.living ≡ Some (record { object = Global k; size = (layout_of structs g.decl).size; constant = g.constant })
    slots : slots_of k m ≡ filled (Global k) (layout_of structs g.decl).slots (map (item_value all) g.items)

  made_here : (structs : List StructDef) (all : List GlobalDef) (gs : List GlobalDef) (g : GlobalDef) (m : Memory) → find (λ (x : Extent). test x.object) m.living ≡ None → slots_of k m ≡ [] → Made structs all g (with_globals structs all k (g ∷ gs) m)
  unfolding with_globals
  made_here structs all gs g m l e = record {
    lives = later_find structs all (k + 1) gs (with_object m (Global k) (layout_of structs g.decl) g.constant (map (item_value all) g.items)) (omega arith)
        ∙ (find-append (λ (x : Extent). test x.object) m.living _ ∙ rw (l, eq-eqb k k refl) refl);
    slots = later_slots structs all (k + 1) gs (with_object m (Global k) (layout_of structs g.decl) g.constant (map (item_value all) g.items)) (omega arith)
        ∙ (filter-append (λ (x : MemorySlot). test x.object) m.slots (filled (Global k) (layout_of structs g.decl).slots (map (item_value all) g.items))
        ∙ (ap (λ ys. ys ++ filter (λ (x : MemorySlot). test x.object) (filled (Global k) (layout_of structs g.decl).slots (map (item_value all) g.items))) e
        ∙ filled_all (layout_of structs g.decl).slots (map (item_value all) g.items)));
  }

  made_at : (structs : List StructDef) (all : List GlobalDef) (i j : ℕ) (gs : List GlobalDef) (g : GlobalDef) (m : Memory) → slice_get gs i ≡ Some g → k ≡ j + i → find (λ (x : Extent). test x.object) m.living ≡ None → slots_of k m ≡ [] → Made structs all g (with_globals structs all j gs m)
  unfolding with_globals
  made_at structs all i j [] g m at n l e = cc
  made_at structs all zero j (x ∷ gs) g m at n l e =
      let same : g ≡ x = cc in
      let here : k ≡ j = omega (arith, n) in
      subst (λ y. Made structs all y (with_globals structs all j (x ∷ gs) m)) (sym same) (subst (λ a. Made structs all x (with_globals structs all a (x ∷ gs) m)) here (made_here structs all gs x m l e))
  made_at structs all (suc i) j (x ∷ gs) g m at n l e =
      made_at structs all i (j + 1) gs g (with_object m (Global j) (layout_of structs x.decl) x.constant (map (item_value all) x.items)) at (omega (arith, n))
      (find_more (λ (y : Extent). test y.object) m.living _ (earlier_false j i n (j == k) refl) ∙ l)
      (object_slots test m (Global j) (layout_of structs x.decl) x.constant (map (item_value all) x.items) (earlier_false j i n (j == k) refl) ∙ e)

  -- ---- the whole run

  module _ (p : Sealed) (g : GlobalDef) (there : slice_get p.program.globals k ≡ Some g) where
    abbrev Held : List Event → State → Type 0
    Held past s = HoldsGlobal p.program k g s.world.memory

    entered_held : (serial : ℕ) (f : Function) (m : Memory) → HoldsGlobal p.program k g m → HoldsGlobal p.program k g (with_locals p.program.structs serial 0 f.locals m)
    entered_held serial f m h = record {
      lives = locals_find test p.program.structs serial 0 f.locals m (λ j. refl) ∙ h.lives;
      items = λ c. locals_slots test p.program.structs serial 0 f.locals m (λ j. refl) ∙ h.items c;
    }

    returned_held : (serial : ℕ) (m : Memory) → HoldsGlobal p.program k g m → HoldsGlobal p.program k g (without_frame serial m)
    unfolding without_frame
    returned_held serial m h = record {
      lives = first_kept (λ (x : Extent). test x.object) (λ (x : Extent). is_elsewhere serial x.object) (λ x e. global_elsewhere serial x.object e) m.living ∙ h.lives;
      items = λ c. filter_kept (λ (x : MemorySlot). test x.object) (λ (x : MemorySlot). is_elsewhere serial x.object) (λ x e. global_elsewhere serial x.object e) m.slots ∙ h.items c;
    }

    held_did : (past : List Event) (s : State) → Held past s → (d : Did) → Steps p s d → InDid (Held (after past (told p s))) d
    held_did past s h _ (acts x xs w e n r) =
        let a : Acts s.world w = acts_is (setting_of p) (scope_of s.top) x s.world w r in
        record {
          lives = ap (find (λ (y : Extent). test y.object)) (acted_living s.world w a) ∙ h.lives;
          items = λ c. acted_slots s.world w _ h.lives c a ∙ h.items c;
        }
    held_did past s h _ (calls x xs c f b bs e n o y) = entered_held s.next f s.world.memory h
    held_did past s h _ (jumps label k b e x f) = h
    held_did past s h _ (leaves v f fs e x y) = returned_held s.top.serial s.world.memory h
    held_did past s h _ (stops o z) = tt
    held_did past s h _ (traps o j) = tt

    abbrev HeldFirst : Option State → Type 0
    HeldFirst None = Unit {0}
    HeldFirst (Some s) = Held [] s

    begun_held : (input : List ℤ) (f : Function) (bs : List Block) → HeldFirst (begun p.program input f bs)
    begun_held input f [] = tt
    begun_held input f (b ∷ bs) =
        let m : Made p.program.structs p.program.globals g (first_memory p.program) = made_at p.program.structs p.program.globals k 0 p.program.globals g no_memory there (omega arith) refl refl in
        entered_held 0 f (first_memory p.program) (record { lives = m.lives; items = λ c. m.slots })

    start_held : (input : List ℤ) (o : Option Function) → HeldFirst (begun_by p.program input o)
    start_held input None = tt
    start_held input (Some f) = begun_held input f f.blocks

pub globals_hold : GlobalsHold
globals_hold p input past s c k g there =
    holds p input (Held k p g there) (record {
      begin = λ t e. subst (HeldFirst k p g there) e (start_held k p g there input (function_named main_name p.program.functions));
      keep = λ past t h. held_did k p g there past t h (step p t) (step_is p t);
    }) past s c
