-- Claims of the events of one run, and of the states that come up in it.
use Rattle.std.proofs.Common.{◌≡◌, ℕ, zero, suc, ℤ, true, List, [], ◌∷◌, ◌++◌, refl, subst, Option, Some}
use Rattle.gimple_core.specs.Sealed.{Sealed}
use Rattle.gimple_core.specs.State.{State}
use Rattle.gimple_core.specs.Run.{step, walk, start}
use Rattle.gimple_core.proofs.StepLemmas.{walk_tells, events_go, events_move}
use Rattle.gimple_core.specs.Trace.{Event, told, events_after, walk_events, events_on, events, main_entry, events_from, Trace, EachAfter, after}
use Rattle.gimple_claims.proofs.Comes.{Comes, begins, goes, moves, AtEach, each_first, each_last, in_run_of}

begins_each : (p : Sealed) (Q : List Event → Event → Type 0) (n : ℕ) (s : State) (o : Option State) → o ≡ Some s → EachAfter Q [] (events_from p n o) → EachAfter Q (main_entry p s ∷ []) (events p n s)
begins_each p Q n s o e a = let b : EachAfter Q [] (events_from p n (Some s)) = subst (λ o. EachAfter Q [] (events_from p n o)) e a in b.1

each_from : (p : Sealed) (Q : List Event → Event → Type 0) (input : List ℤ) → ((n : ℕ) → EachAfter Q [] (Trace p input n)) → (past : List Event) (s : State) → Comes p input past s → (n : ℕ) → EachAfter Q past (events p n s)
unfolding Trace
each_from p Q input all _ _ (begins s e) n = begins_each p Q n s (start p input) e (all n)
each_from p Q input all _ _ (goes past s t c e) n =
    each_last Q past (told p s) (events p n t) (subst (EachAfter Q past) (events_go p s t e n) (each_from p Q input all past s c n))
each_from p Q input all _ _ (moves past k s t c e) n =
    each_last Q past (told p s) (events p n t) (subst (EachAfter Q past) (events_move p k s t e n) (each_from p Q input all past s c (suc n)))

-- a claim on a run holds of what each of its states tells
pub at_each : (p : Sealed) (Q : List Event → Event → Type 0) (input : List ℤ) → ((n : ℕ) → EachAfter Q [] (Trace p input n)) → AtEach p input Q
unfolding events
at_each p Q input all past s c =
    each_first Q past (told p s) _
    (each_first Q past (told p s ++ events_after (step p s) (λ t. walk_events p true t.top.rest t)) _
    (subst (λ es. EachAfter Q past (es ++ events_on (walk p s.top.rest s) (events p zero))) (walk_tells p true s.top.rest s) (each_from p Q input all past s c (suc zero))))

-- and of what happened before
abbrev pub EachBefore : (List Event → Event → Type 0) → List Event → Type 0
EachBefore Q [] = Unit {0}
EachBefore Q (e ∷ es) = Q es e × EachBefore Q es

grows : (Q : List Event → Event → Type 0) (past es : List Event) → EachBefore Q past → EachAfter Q past es → EachBefore Q (after past es)
grows Q past [] h g = h
grows Q past (e ∷ es) h g = grows Q (e ∷ past) es (g.0, h) g.1

first_claim : (p : Sealed) (Q : List Event → Event → Type 0) (s : State) (o : Option State) → o ≡ Some s → EachAfter Q [] (events_from p 0 o) → Q [] (main_entry p s)
first_claim p Q s o e h = let g : EachAfter Q [] (events_from p 0 (Some s)) = subst (λ o. EachAfter Q [] (events_from p 0 o)) e h in g.0

pub each_before : (p : Sealed) (Q : List Event → Event → Type 0) (input : List ℤ) → ((n : ℕ) → EachAfter Q [] (Trace p input n)) → (past : List Event) (s : State) → Comes p input past s → EachBefore Q past
unfolding Trace
each_before p Q input all _ _ (begins s e) = (first_claim p Q s (start p input) e (all 0), tt)
each_before p Q input all _ _ (goes past s t c e) = grows Q past (told p s) (each_before p Q input all past s c) (at_each p Q input all past s c)
each_before p Q input all _ _ (moves past k s t c e) = grows Q past (told p s) (each_before p Q input all past s c) (at_each p Q input all past s c)

-- a claim of main's entry and of what each state tells holds of the run
pub in_run : (p : Sealed) (Q : List Event → Event → Type 0) (input : List ℤ) → ((s : State) → start p input ≡ Some s → Q [] (main_entry p s)) → AtEach p input Q → (n : ℕ) → EachAfter Q [] (Trace p input n)
unfolding Trace
in_run p Q input first all n = in_run_of p input Q all n (start p input) refl first
