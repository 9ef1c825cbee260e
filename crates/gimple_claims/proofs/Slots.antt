-- What slots hold between two states of a run.
use Rattle.std.proofs.Common.{◌≡◌, ℕ, ◌+◌, ◌==◌, ◌&&◌, ℤ, Bool, true, false, cond, List, [], ◌∷◌, ◌++◌, refl, sym, ◌∙◌, ap, subst, Option, Some, None, Result, Ok, Err, filter, if◌then◌else◌}
use Rattle.std.specs.List.{find, AllByRecursion}
use Rattle.std.specs.Option.{option_map}
use Rattle.std.proofs.lemmas.Bool.{eqb-true}
use Rattle.gimple_ir.specs.declared.scalar.Scalar.{Scalar}
use Rattle.gimple_ir.specs.declared.value.Value.{Value}
use Rattle.gimple_ir.specs.declared.value.Object.{Object}
use Rattle.gimple_ir.specs.declared.value.Object.TheVariants.{Local as LocalObject}
use Rattle.gimple_ir.specs.declared.value.LayoutSlot.{LayoutSlot}
use Rattle.gimple_ir.specs.declared.value.TrapKind.{TrapKind}
use Rattle.gimple_ir.specs.declared.declarations.Decl.{Decl}
use Rattle.gimple_ir.specs.declared.declarations.StructDef.{StructDef}
use Rattle.gimple_ir.specs.declared.declarations.Global.{Global}
use Rattle.gimple_ir.specs.declared.statement.Stmt.{Stmt}
use Rattle.gimple_ir.specs.declared.statement.Stmt.TheVariants.{Copy, Arith, Compare, Convert, Load as LoadStmt, Store as StoreStmt, Call, Indirect, Get, Put, Abort}
use Rattle.gimple_core.specs.declared.machine.Extent.{Extent}
use Rattle.gimple_core.specs.declared.machine.MemorySlot.{MemorySlot}
use Rattle.gimple_core.specs.declared.machine.FoundSlot.{FoundSlot}
use Rattle.gimple_core.specs.Names.{update_first}
use Rattle.gimple_core.specs.Sealed.{Sealed}
use Rattle.gimple_core.specs.Layout.{layout_of}
use Rattle.gimple_core.specs.Memory.{Memory, same_object, same_scalar, is_slot, put_slot, is_elsewhere, without_frame}
use Rattle.gimple_core.specs.State.{Control, World, State, Scope, Setting, setting_of, scope_of}
use Rattle.gimple_core.specs.Run.{Did, filled, with_object, with_locals, assign_result, loaded, stored, got, act, step}
use Rattle.gimple_core.specs.Trace.{Event, access, accesses, store_event, told, told_by}
use Rattle.gimple_core.proofs.Dropping.{first_kept}
use Rattle.gimple_claims.specs.Runs.{Comes, Leads, none, goes_on as leads_goes, moves_on as leads_moves}
use Rattle.gimple_claims.specs.Laws.{living_object}
use Rattle.gimple_claims.specs.Slots.{IsStoreTo, LeadsTelling, stays, goes_on, moves_on, SlotsKeepValues}
use Rattle.gimple_claims.proofs.Comes.{InDid}
use Rattle.gimple_claims.proofs.Globals.{same_object_true}
use Rattle.gimple_core.proofs.ScalarLemmas.{same_scalar_true}
use Rattle.gimple_claims.proofs.Dead.{Begun, begun, not_new, leads_to, from_did, dead_stay_dead}
use Rattle.gimple_claims.proofs.Steps.{Steps, acts, calls, jumps, leaves, stops, traps, step_is}

-- ---- searches in lists that are changed

find_updated : {X : Type 0} (test p : X → Bool) (g : X → X) → ((x : X) → p x ≡ true → (test x ≡ false) × (test (g x) ≡ false)) → (xs : List X) → find test (update_first p g xs) ≡ find test xs
unfolding update_first
find_updated test p g h [] = refl
find_updated test p g h (x ∷ xs) = by (p x) (h x) (find_updated test p g h xs)
  where
    by : (b : Bool) → (b ≡ true → (test x ≡ false) × (test (g x) ≡ false)) → find test (update_first p g xs) ≡ find test xs → find test (if b then g x ∷ xs else x ∷ update_first p g xs) ≡ (if test x then Some x else find test xs)
    by true k more = rw ((k refl).1, (k refl).0) refl
    by false k more = ap (λ o. if test x then Some x else o) more

find_before : {X : Type 0} (test : X → Bool) (xs ys : List X) → find test ys ≡ None → find test (xs ++ ys) ≡ find test xs
find_before test [] ys e = e
find_before test (x ∷ xs) ys e = ap (λ o. if test x then Some x else o) (find_before test xs ys e)

-- what is found in a filtered list passes both tests
found_in_filter : {X : Type 0} (test keep : X → Bool) (xs : List X) (y : X) → find test (filter keep xs) ≡ Some y → (test y ≡ true) × (keep y ≡ true)
found_in_filter test keep [] y e = cc
found_in_filter test keep (x ∷ xs) y e = by (keep x) refl e (found_in_filter test keep xs y)
  where
    here : (a : Bool) → test x ≡ a → keep x ≡ true → (if a then Some x else find test (filter keep xs)) ≡ Some y → (find test (filter keep xs) ≡ Some y → (test y ≡ true) × (keep y ≡ true)) → (test y ≡ true) × (keep y ≡ true)
    here true t k f more = let same : x ≡ y = cc in (ap test (sym same) ∙ t, ap keep (sym same) ∙ k)
    here false t k f more = more f

    by : (b : Bool) → keep x ≡ b → find test (cond b (x ∷ filter keep xs) (filter keep xs)) ≡ Some y → (find test (filter keep xs) ≡ Some y → (test y ≡ true) × (keep y ≡ true)) → (test y ≡ true) × (keep y ≡ true)
    by true k f more = here (test x) refl k f more
    by false k f more = more f

-- ---- slots that are another one

both_true : (a b : Bool) → a && b ≡ true → (a ≡ true) × (b ≡ true)
both_true true b e = (refl, e)
both_true false b e = cc

record IsKey (object : Object) (offset : ℕ) (scalar : Scalar) (s : MemorySlot) : Type 0 where
  object_is : s.object ≡ object
  offset_is : s.offset ≡ offset
  scalar_is : s.scalar ≡ scalar

key_is : (object : Object) (offset : ℕ) (scalar : Scalar) (s : MemorySlot) → is_slot object offset scalar s ≡ true → IsKey object offset scalar s
key_is object offset scalar s e =
    let first = both_true (same_object s.object object && (s.offset == offset)) (same_scalar s.scalar scalar) e in
    let second = both_true (same_object s.object object) (s.offset == offset) first.0 in
    record { object_is = same_object_true s.object object second.0; offset_is = eqb-true s.offset offset second.1; scalar_is = same_scalar_true s.scalar scalar first.1 }

module _ (object : Object) (offset : ℕ) (scalar : Scalar) where
  abbrev test : MemorySlot → Bool
  test = is_slot object offset scalar

  abbrev Spared : List Event → Type 0
  Spared es = AllByRecursion (λ e. IsStoreTo object offset scalar e → ⊥) es

  -- a store to another slot
  other_slot : (other : Object) (place : ℕ) (kind : Scalar) → ((other ≡ object) × (place ≡ offset) × (kind ≡ scalar) → ⊥) → (s : MemorySlot) → is_slot other place kind s ≡ true → (b : Bool) → is_slot object offset scalar s ≡ b → b ≡ false
  other_slot other place kind differs s e true f =
      let h = key_is other place kind s e in
      let k = key_is object offset scalar s f in
      absurd (differs (sym h.object_is ∙ k.object_is, sym h.offset_is ∙ k.offset_is, sym h.scalar_is ∙ k.scalar_is))
  other_slot other place kind differs s e false f = refl

  pub put_other : (other : Object) (place : ℕ) (kind : Scalar) (v : Value) (slots : List MemorySlot) → ((other ≡ object) × (place ≡ offset) × (kind ≡ scalar) → ⊥) → find test (put_slot slots other place kind v) ≡ find test slots
  put_other other place kind v slots differs =
      find_updated test (is_slot other place kind) (λ s. record s { value = v })
      (λ s e. let no_slot = other_slot other place kind differs s e (is_slot object offset scalar s) refl in (no_slot, no_slot)) slots

  -- ---- a statement

  abbrev KeptIn : World → Result World TrapKind → List Event → Type 0
  KeptIn d (Ok w) es = Spared es → find test w.memory.slots ≡ find test d.memory.slots
  KeptIn d (Err kind) es = Unit {0}

  assigned_kept : (scope : Scope) (d : World) (to : List ℕ) (r : Result Value TrapKind) (es : List Event) → KeptIn d (assign_result scope d to r) es
  assigned_kept scope d to (Ok v) es = λ spared. refl
  assigned_kept scope d to (Err kind) es = tt

  loaded_kept : (scope : Scope) (d : World) (to : List ℕ) (r : Result FoundSlot TrapKind) (es : List Event) → KeptIn d (loaded scope d to r) es
  loaded_kept scope d to (Ok f) es = λ spared. refl
  loaded_kept scope d to (Err kind) es = tt

  stored_by : (c : Control) (d : World) (kind : Scalar) (v : Value) (f : FoundSlot) (b : Bool) → f.constant ≡ b → KeptIn d (stored d kind v (Ok f)) (store_event c kind v (Ok f))
  stored_by c d kind v f true e = rw e tt
  stored_by c d kind v f false e = rw e (λ spared. put_other f.object f.offset kind v d.memory.slots spared.0)

  stored_kept : (c : Control) (d : World) (kind : Scalar) (v : Value) (r : Result FoundSlot TrapKind) → KeptIn d (stored d kind v r) (store_event c kind v r)
  stored_kept c d kind v (Ok f) = stored_by c d kind v f f.constant refl
  stored_kept c d kind v (Err reason) = tt

  got_kept : (scope : Scope) (d : World) (to : List ℕ) (o : Option ℤ) → find test (got scope d to o).memory.slots ≡ find test d.memory.slots
  got_kept scope d to None = refl
  got_kept scope d to (Some z) = refl

  act_kept : (e : Setting) (s : State) (x : Stmt) → KeptIn s.world (act e (scope_of s.top) x s.world) (accesses e.globals x s)
  unfolding act
  act_kept e s (Copy to from) = λ spared. refl
  act_kept e s (Arith to left op right) = assigned_kept (scope_of s.top) s.world to _ []
  act_kept e s (Compare to left cmp right) = λ spared. refl
  act_kept e s (Convert to kind from) = λ spared. refl
  act_kept e s (LoadStmt to kind place) = loaded_kept (scope_of s.top) s.world to _ _
  act_kept e s (StoreStmt kind place from) = stored_kept s.top s.world kind _ _
  act_kept e s (Call to callee arguments) = tt
  act_kept e s (Indirect to signature callee arguments) = tt
  act_kept e s (Get to) = λ spared. got_kept (scope_of s.top) s.world to _
  act_kept e s (Put from) = λ spared. refl
  act_kept e s Abort = tt

  -- ---- a call that begins, and one that ends

  filled_other : (other : Object) (ss : List LayoutSlot) (vs : List Value) → same_object other object ≡ false → find test (filled other ss vs) ≡ None
  filled_other other [] vs e = refl
  filled_other other (s ∷ ss) [] e = rw e (filled_other other ss [] e)
  filled_other other (s ∷ ss) (v ∷ vs) e = rw e (filled_other other ss vs e)

  locals_other : (structs : List StructDef) (serial k : ℕ) (ds : List Decl) (m : Memory) → ((k : ℕ) → same_object (LocalObject serial k) object ≡ false) → find test (with_locals structs serial k ds m).slots ≡ find test m.slots
  unfolding with_locals
  locals_other structs serial k [] m h = refl
  locals_other structs serial k (d ∷ ds) m h =
      locals_other structs serial (k + 1) ds (with_object m (LocalObject serial k) (layout_of structs d) false []) h
      ∙ find_before test m.slots (filled (LocalObject serial k) (layout_of structs d).slots []) (filled_other (LocalObject serial k) (layout_of structs d).slots [] (h k))

  elsewhere_by : (serial : ℕ) (x : Extent) (m : Memory) → living_object object (without_frame serial m) ≡ Some x → is_elsewhere serial object ≡ true
  unfolding without_frame
  elsewhere_by serial x m e =
      let h = found_in_filter (λ (y : Extent). same_object y.object object) (λ (y : Extent). is_elsewhere serial y.object) m.living x e in
      let own : x.object ≡ object = same_object_true x.object object h.0 in
      ap (is_elsewhere serial) (sym own) ∙ h.1

  frame_other : (serial : ℕ) (m : Memory) → is_elsewhere serial object ≡ true → find test (without_frame serial m).slots ≡ find test m.slots
  unfolding without_frame
  frame_other serial m e =
      first_kept test (λ (s : MemorySlot). is_elsewhere serial s.object) (λ s f. let h = key_is object offset scalar s f in ap (is_elsewhere serial) h.object_is ∙ e) m.slots

  -- ---- a step

  access_of : (globals : List Global) (s : State) (x : Stmt) (xs : List Stmt) → s.top.rest ≡ x ∷ xs → access globals s.top.rest s ≡ accesses globals x s
  access_of globals s x xs e = rw e refl

  spared_first : (es fs : List Event) → Spared (es ++ fs) → Spared es
  spared_first [] fs h = tt
  spared_first (e ∷ es) fs h = (h.0, spared_first es fs h.1)

  spared_last : (es fs : List Event) → Spared (es ++ fs) → Spared fs
  spared_last [] fs h = h
  spared_last (e ∷ es) fs h = spared_last es fs h.1

  accesses_spared : (p : Sealed) (s : State) (x : Stmt) (xs : List Stmt) → s.top.rest ≡ x ∷ xs → Spared (told p s) → Spared (accesses p.program.globals x s)
  unfolding told_by
  accesses_spared p s x xs e h = subst Spared (access_of p.program.globals s x xs e) (spared_first (access p.program.globals s.top.rest s) _ h.1)

  abbrev StaysIn : State → State → Type 0
  StaysIn s t = (x : Extent) → living_object object t.world.memory ≡ Some x → find test t.world.memory.slots ≡ find test s.world.memory.slots

  kept_did : (p : Sealed) (s : State) → Begun s.next object → Spared (told p s) → (d : Did) → Steps p s d → InDid (StaysIn s) d
  kept_did p s b h _ (acts x xs w e n r) = λ y lives. subst (λ (o : Result World TrapKind). KeptIn s.world o (accesses p.program.globals x s)) r (act_kept (setting_of p) s x) (accesses_spared p s x xs e h)
  kept_did p s b h _ (calls x xs c g first more e n f z) = λ y lives. locals_other p.program.structs s.next 0 g.locals s.world.memory (λ k. not_new s.next object k b)
  kept_did p s b h _ (jumps label k first e x f) = λ y lives. refl
  kept_did p s b h _ (leaves v f fs e x z) = λ y lives. frame_other s.top.serial s.world.memory (elsewhere_by s.top.serial y s.world.memory lives)
  kept_did p s b h _ (stops o z) = tt
  kept_did p s b h _ (traps o k) = tt

  -- ---- several steps

  leads : (p : Sealed) (s : State) (es : List Event) (t : State) → LeadsTelling p s es t → Leads p s t
  leads p s _ _ stays = none
  leads p s _ _ (goes_on es t u l e) = leads_goes t u (leads p s es t l) e
  leads p s _ _ (moves_on es k t u l e) = leads_moves k t u (leads p s es t l) e

  still_lives : (p : Sealed) (input : List ℤ) (past : List Event) (s t u : State) (x y : Extent) → Comes p input past s → Leads p s t → Leads p t u → living_object object s.world.memory ≡ Some x → living_object object u.world.memory ≡ Some y →
      (o : Option Extent) → living_object object t.world.memory ≡ o → (z : Extent) × (living_object object t.world.memory ≡ Some z)
  still_lives p input past s t u x y c l m a b None e = let gone : living_object object u.world.memory ≡ None = dead_stay_dead p input past s t u object x c l m a e in cc
  still_lives p input past s t u x y c l m a b (Some z) e = (z, e)

  begun_there : (p : Sealed) (input : List ℤ) (past : List Event) (s : State) (es : List Event) (t : State) (x : Extent) → Comes p input past s → LeadsTelling p s es t → living_object object s.world.memory ≡ Some x → Begun t.next object
  begun_there p input past s es t x c l e = leads_to p (λ v. Begun v.next object) (λ v h. from_did object p v h (step p v) (step_is p v)) s t (leads p s es t l) (begun p input past s object x c e)

  kept : (p : Sealed) (input : List ℤ) (past : List Event) (s : State) (x : Extent) → Comes p input past s → living_object object s.world.memory ≡ Some x → (es : List Event) (t : State) (y : Extent) → LeadsTelling p s es t →
      living_object object t.world.memory ≡ Some y → Spared es → find test t.world.memory.slots ≡ find test s.world.memory.slots
  kept p input past s x c a _ _ y stays b h = refl
  kept p input past s x c a _ _ y (goes_on es t u l e) b h =
      let there = still_lives p input past s t u x y c (leads p s es t l) (leads_goes t u none e) a b (living_object object t.world.memory) refl in
      let last : StaysIn t u = subst (InDid (StaysIn t)) e (kept_did p t (begun_there p input past s es t x c l a) (spared_last es (told p t) h) (step p t) (step_is p t)) in
      last y b ∙ kept p input past s x c a es t there.0 l there.1 (spared_first es (told p t) h)
  kept p input past s x c a _ _ y (moves_on es k t u l e) b h =
      let there = still_lives p input past s t u x y c (leads p s es t l) (leads_moves k t u none e) a b (living_object object t.world.memory) refl in
      let last : StaysIn t u = subst (InDid (StaysIn t)) e (kept_did p t (begun_there p input past s es t x c l a) (spared_last es (told p t) h) (step p t) (step_is p t)) in
      last y b ∙ kept p input past s x c a es t there.0 l there.1 (spared_first es (told p t) h)

pub slots_keep_values : SlotsKeepValues
slots_keep_values p input past es s t object offset scalar x y c l a b h =
    ap (option_map (λ (r : MemorySlot). r.value)) (kept object offset scalar p input past s x c a es t y l b h)
