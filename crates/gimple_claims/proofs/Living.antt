-- Each living object is a global or a local of a frame of the state.
use Rattle.std.proofs.Common.{◌≡◌, ℕ, ◌+◌, ◌==◌, ◌||◌, not, ℤ, Bool, true, false, List, [], ◌∷◌, map, refl, sym, ◌∙◌, subst, Option, Some, None}
use Rattle.std.specs.List.{list_all, list_any}
use Rattle.std.proofs.lemmas.Bool.{eqb-true, eq-eqb}
use Rattle.gimple_ir.specs.declared.declarations.Global.{Global}
use Rattle.gimple_ir.specs.declared.declarations.StructDef.{StructDef}
use Rattle.gimple_ir.specs.declared.block.Block.{Block}
use Rattle.gimple_ir.specs.declared.value.Object.{Object}
use Rattle.gimple_ir.specs.declared.value.Object.TheVariants.{Global as GlobalObject, Local}
use Rattle.gimple_ir.specs.declared.program.Function.{Function}
use Rattle.gimple_core.specs.Sealed.{Sealed}
use Rattle.gimple_core.specs.declared.machine.Extent.{Extent}
use Rattle.gimple_core.specs.Memory.{Memory, is_elsewhere, without_frame}
use Rattle.gimple_core.specs.State.{Frame, World, State, scope_of, setting_of}
use Rattle.gimple_core.specs.Run.{Did, step, with_globals, with_locals, no_memory, first_memory, function_named, main_name, begun, begun_by}
use Rattle.gimple_core.specs.Trace.{Event, told, after}
use Rattle.gimple_claims.specs.Stack.{serials}
use Rattle.gimple_claims.specs.Laws.{lives_in, LivingAreOfFrames}
use Rattle.std.proofs.lemmas.List.Folds.{list_all-append}
use Rattle.gimple_claims.proofs.Comes.{InDid, holds}
use Rattle.gimple_claims.proofs.Steps.{Steps, acts, calls, jumps, leaves, stops, traps, step_is}
use Rattle.gimple_claims.proofs.Acts.{Acts, assigns, takes, prints, stores, acts_is}
use Rattle.gimple_claims.proofs.Lists.{all_kept, all_weaker}
use Rattle.gimple_claims.proofs.Locals.{locals_all}

abbrev AllLive : List ℕ → Memory → Type 0
AllLive ns m = list_all (λ (x : Extent). lives_in ns x.object) m.living ≡ true

abbrev Living : List Event → State → Type 0
Living past s = AllLive (serials s) s.world.memory

acted_living : (ns : List ℕ) (m w : World) → Acts m w → AllLive ns m.memory → AllLive ns w.memory
acted_living ns m _ (assigns to v) h = h
acted_living ns m _ (takes to v) h = h
acted_living ns m _ (prints output) h = h
acted_living ns m _ (stores at scalar v f e c) h = h

-- the locals of a new frame, and what lived before
lives_more : (n : ℕ) (ns : List ℕ) (o : Object) → lives_in ns o ≡ true → lives_in (n ∷ ns) o ≡ true
lives_more n ns (GlobalObject k) e = refl
lives_more n ns (Local serial k) e = by (n == serial) e
  where
    by : (a : Bool) → list_any (λ m. m == serial) ns ≡ true → a || list_any (λ m. m == serial) ns ≡ true
    by true f = refl
    by false f = f

entered_living : (structs : List StructDef) (n : ℕ) (ns : List ℕ) (f : Function) (m : Memory) → AllLive ns m → AllLive (n ∷ ns) (with_locals structs n 0 f.locals m)
entered_living structs n ns f m h =
    locals_all (lives_in (n ∷ ns)) structs n 0 f.locals m (λ k. rw (eq-eqb n n refl) refl)
    (all_weaker (λ (x : Extent). lives_in ns x.object) (λ (x : Extent). lives_in (n ∷ ns) x.object) (λ x e. lives_more n ns x.object e) m.living h)

-- without the frame that returns
lives_less : (n : ℕ) (ns : List ℕ) (o : Object) → lives_in (n ∷ ns) o ≡ true → is_elsewhere n o ≡ true → lives_in ns o ≡ true
lives_less n ns (GlobalObject k) e f = refl
lives_less n ns (Local serial k) e f = by (n == serial) refl e
  where
    by : (a : Bool) → n == serial ≡ a → a || list_any (λ m. m == serial) ns ≡ true → list_any (λ m. m == serial) ns ≡ true
    by true g e = let there : serial == n ≡ true = eq-eqb serial n (sym (eqb-true n serial g)) in let gone : not (serial == n) ≡ true = f in cc
    by false g e = e

returned_living : (n : ℕ) (ns : List ℕ) (m : Memory) → AllLive (n ∷ ns) m → AllLive ns (without_frame n m)
unfolding without_frame
returned_living n ns m h =
    all_kept (λ (x : Extent). lives_in (n ∷ ns) x.object) (λ (x : Extent). lives_in ns x.object) (λ (x : Extent). is_elsewhere n x.object) (λ x e f. lives_less n ns x.object e f) m.living h

living_did : (p : Sealed) (past : List Event) (s : State) → Living past s → (d : Did) → Steps p s d → InDid (Living (after past (told p s))) d
living_did p past s h _ (acts x xs w e n r) = acted_living (serials s) s.world w (acts_is (setting_of p) (scope_of s.top) x s.world w r) h
living_did p past s h _ (calls x xs c g b bs e n f y) = entered_living p.program.structs s.next (serials s) g s.world.memory h
living_did p past s h _ (jumps label k b e x f) = h
living_did p past s h _ (leaves v f fs e x y) =
    returned_living s.top.serial (f.control.serial ∷ map (λ (r : Frame). r.control.serial) fs) s.world.memory
    (subst (λ rs. AllLive (s.top.serial ∷ map (λ (r : Frame). r.control.serial) rs) s.world.memory) y h)
living_did p past s h _ (stops o z) = tt
living_did p past s h _ (traps o k) = tt

globals_living : (structs : List StructDef) (all : List Global) (k : ℕ) (gs : List Global) (m : Memory) (ns : List ℕ) → AllLive ns m → AllLive ns (with_globals structs all k gs m)
unfolding with_globals
globals_living structs all k [] m ns h = h
globals_living structs all k (g ∷ gs) m ns h =
    globals_living structs all (k + 1) gs _ ns (list_all-append (λ (x : Extent). lives_in ns x.object) m.living _ ∙ rw h refl)

abbrev LivesFirst : Option State → Type 0
LivesFirst None = Unit {0}
LivesFirst (Some s) = Living [] s

begun_living : (p : Sealed) (input : List ℤ) (f : Function) (bs : List Block) → LivesFirst (begun p.program input f bs)
begun_living p input f [] = tt
begun_living p input f (b ∷ bs) = entered_living p.program.structs 0 [] f (first_memory p.program) (globals_living p.program.structs p.program.globals 0 p.program.globals no_memory [] refl)

start_living : (p : Sealed) (input : List ℤ) (o : Option Function) → LivesFirst (begun_by p.program input o)
start_living p input None = tt
start_living p input (Some f) = begun_living p input f f.blocks

pub living_are_of_frames : LivingAreOfFrames
living_are_of_frames p input past s c =
    holds p input Living (record {
      begin = λ s e. subst LivesFirst e (start_living p input (function_named main_name p.program.functions));
      keep = λ past s h. living_did p past s h (step p s) (step_is p s);
    }) past s c
