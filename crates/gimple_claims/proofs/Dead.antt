-- An object that has died stays dead: no frame that begins has the serial of an earlier one.
use Rattle.std.proofs.Common.{◌≡◌, ℕ, ◌+◌, ◌<◌, ◌≤◌, ◌==◌, ◌&&◌, ◌||◌, ℤ, Bool, true, false, cond, if◌then◌else◌, List, [], ◌∷◌, map, filter, refl, sym, ◌∙◌, ap, subst, arith, Some, None}
use Rattle.std.specs.List.{find, list_any}
use Rattle.std.proofs.lemmas.Bool.{eqb-true}
use Rattle.gimple_ir.specs.declared.value.Object.{Object}
use Rattle.gimple_ir.specs.declared.value.Object.TheVariants.{Global, Local}
use Rattle.gimple_core.specs.Sealed.{Sealed}
use Rattle.gimple_core.specs.declared.machine.Extent.{Extent}
use Rattle.gimple_core.specs.Memory.{Memory, same_object, is_elsewhere, without_frame}
use Rattle.gimple_core.specs.State.{Frame, World, State, scope_of, setting_of}
use Rattle.gimple_core.specs.Run.{Did, step}
use Rattle.gimple_core.specs.Trace.{Event}
use Rattle.gimple_claims.specs.Runs.{Comes, Leads, none, goes_on, moves_on}
use Rattle.gimple_claims.specs.Stack.{serials}
use Rattle.gimple_claims.specs.Laws.{Older, lives_in, living_object, DeadStayDead}
use Rattle.gimple_claims.proofs.Comes.{InDid}
use Rattle.gimple_claims.proofs.Steps.{OlderFrames, Steps, acts, calls, jumps, leaves, stops, traps, step_is, older}
use Rattle.gimple_claims.proofs.Acts.{Acts, assigns, takes, prints, stores, acts_is}
use Rattle.gimple_claims.proofs.Lists.{found_test, found_has}
use Rattle.gimple_claims.proofs.Locals.{locals_find}
use Rattle.gimple_claims.proofs.Globals.{same_object_true}
use Rattle.gimple_claims.proofs.Living.{living_are_of_frames}

-- what each step keeps holds in all states that come later
pub leads_to : (p : Sealed) (I : State → Type 0) → ((s : State) → I s → InDid I (step p s)) → (s t : State) → Leads p s t → I s → I t
leads_to p I keep s _ none h = h
leads_to p I keep s _ (goes_on t u l e) h = subst (InDid I) e (keep t (leads_to p I keep s t l h))
leads_to p I keep s _ (moves_on k t u l e) h = subst (InDid I) e (keep t (leads_to p I keep s t l h))

-- ---- an object of a frame that has begun

abbrev pub Begun : ℕ → Object → Type 0
Begun n (Global k) = Unit {0}
Begun n (Local serial k) = serial < n

begun_more : (n m : ℕ) (o : Object) → n ≤ m → Begun n o → Begun m o
begun_more n m (Global k) l h = tt
begun_more n m (Local serial k) l h = let b : serial < n = h in omega (arith, b, l)

-- is none of the frame that begins next
pub not_new : (n : ℕ) (o : Object) (k : ℕ) → Begun n o → same_object (Local n k) o ≡ false
not_new n (Global j) k h = refl
not_new n (Local serial j) k h = by (n == serial) refl h
  where
    by : (b : Bool) → (n == serial) ≡ b → serial < n → b && (k == j) ≡ false
    by true e l = let same : n ≡ serial = eqb-true n serial e in absurd (omega (arith, same, l))
    by false e l = refl

-- ---- what lives is of a frame that has begun

older_below : (n serial : ℕ) (fs : List Frame) → OlderFrames n fs → list_any (λ m. m == serial) (map (λ (f : Frame). f.control.serial) fs) ≡ true → serial < n
older_below n serial [] h e = cc
older_below n serial (f ∷ fs) h e = by (f.control.serial == serial) refl e h.0 (older_below n serial fs h.1)
  where
    by : (b : Bool) → (f.control.serial == serial) ≡ b → b || list_any (λ m. m == serial) (map (λ (g : Frame). g.control.serial) fs) ≡ true → f.control.serial < n →
        (list_any (λ m. m == serial) (map (λ (g : Frame). g.control.serial) fs) ≡ true → serial < n) → serial < n
    by true t e one more = let same : f.control.serial ≡ serial = eqb-true f.control.serial serial t in omega (arith, same, one)
    by false t e one more = more e

begun_by : (past : List Event) (s : State) (o : Object) → Older past s → lives_in (serials s) o ≡ true → Begun s.next o
begun_by past s (Global k) h e = tt
begun_by past s (Local serial k) h e = older_below s.next serial (record { control = s.top; registers = s.world.registers } ∷ s.below) (h.top, h.below) e

pub begun : (p : Sealed) (input : List ℤ) (past : List Event) (s : State) (o : Object) (x : Extent) → Comes p input past s → living_object o s.world.memory ≡ Some x → Begun s.next o
begun p input past s o x c e =
    let own : x.object ≡ o = same_object_true x.object o (found_test (λ (y : Extent). same_object y.object o) s.world.memory.living x e) in
    let there : lives_in (serials s) x.object ≡ true = found_has (λ (y : Extent). lives_in (serials s) y.object) (λ (y : Extent). same_object y.object o) s.world.memory.living x (living_are_of_frames p input past s c) e in
    begun_by past s o (older p input past s c) (ap (lives_in (serials s)) (sym own) ∙ there)

-- ---- a step

none_filtered : (test keep : Extent → Bool) (xs : List Extent) → find test xs ≡ None → find test (filter keep xs) ≡ None
none_filtered test keep [] e = refl
none_filtered test keep (x ∷ xs) e = by (test x) (keep x) refl e (none_filtered test keep xs)
  where
    by : (a b : Bool) → test x ≡ a → (if a then Some x else find test xs) ≡ None → (find test xs ≡ None → find test (filter keep xs) ≡ None) → find test (cond b (x ∷ filter keep xs) (filter keep xs)) ≡ None
    by true b t e more = cc
    by false true t e more = rw t (more e)
    by false false t e more = more e

module _ (object : Object) where
  abbrev test : Extent → Bool
  test x = same_object x.object object

  record IsDead (s : State) : Type 0 where
    dead : living_object object s.world.memory ≡ None
    from : Begun s.next object

  acted_dead : (m w : World) → Acts m w → living_object object m.memory ≡ None → living_object object w.memory ≡ None
  acted_dead m _ (assigns to v) h = h
  acted_dead m _ (takes to v) h = h
  acted_dead m _ (prints output) h = h
  acted_dead m _ (stores at scalar v f e c) h = h

  returned_dead : (serial : ℕ) (m : Memory) → living_object object m ≡ None → living_object object (without_frame serial m) ≡ None
  unfolding without_frame
  returned_dead serial m h = none_filtered test (λ x. is_elsewhere serial x.object) m.living h

  dead_did : (p : Sealed) (s : State) → IsDead s → (d : Did) → Steps p s d → InDid IsDead d
  dead_did p s h _ (acts x xs w e n r) = record { dead = acted_dead s.world w (acts_is (setting_of p) (scope_of s.top) x s.world w r) h.dead; from = h.from }
  dead_did p s h _ (calls x xs c g b bs e n f y) = record {
    dead = locals_find (λ o. same_object o object) p.program.structs s.next 0 g.locals s.world.memory (λ k. not_new s.next object k h.from) ∙ h.dead;
    from = begun_more s.next (s.next + 1) object (omega arith) h.from;
  }
  dead_did p s h _ (jumps label k b e x f) = record { dead = h.dead; from = h.from }
  dead_did p s h _ (leaves v f fs e x y) = record { dead = returned_dead s.top.serial s.world.memory h.dead; from = h.from }
  dead_did p s h _ (stops o z) = tt
  dead_did p s h _ (traps o k) = tt

  pub from_did : (p : Sealed) (s : State) → Begun s.next object → (d : Did) → Steps p s d → InDid (λ t. Begun t.next object) d
  from_did p s h _ (acts x xs w e n r) = h
  from_did p s h _ (calls x xs c g b bs e n f y) = begun_more s.next (s.next + 1) object (omega arith) h
  from_did p s h _ (jumps label k b e x f) = h
  from_did p s h _ (leaves v f fs e x y) = h
  from_did p s h _ (stops o z) = tt
  from_did p s h _ (traps o k) = tt

pub dead_stay_dead : DeadStayDead
dead_stay_dead p input past s t u object x c a b lived dead =
    let from : Begun t.next object = leads_to p (λ v. Begun v.next object) (λ v h. from_did object p v h (step p v) (step_is p v)) s t a (begun p input past s object x c lived) in
    let last : IsDead object u = leads_to p (IsDead object) (λ v h. dead_did object p v h (step p v) (step_is p v)) t u b (record { dead = dead; from = from }) in
    last.dead
