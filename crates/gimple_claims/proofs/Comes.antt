-- The states of a run with what happened before each, and the one induction over runs.
use Rattle.std.proofs.Common.{◌≡◌, ℕ, zero, suc, ℤ, Bool, true, false, List, [], ◌∷◌, ◌++◌, refl, sym, ◌∙◌, ap, subst, Option, Some, None}
use Rattle.gimple_core.specs.Sealed.{Sealed}
use Rattle.gimple_ir.specs.declared.statement.Stmt.{Stmt}
use Rattle.gimple_core.specs.State.{State}
use Rattle.gimple_core.specs.Run.{Reached, Moves, Stops, Traps, Did, Goes, Reaches, perform, finish, resumed, stepped, step, then_walk, walk, start}
use Rattle.gimple_core.proofs.Simulation.{KeepsRest, perform_rest}
use Rattle.gimple_core.proofs.StepLemmas.{same_told}
pub use Rattle.gimple_claims.specs.Runs.{Comes, begins, goes, moves}
use Rattle.gimple_core.specs.Trace.{Event, told_by, told, access, events_after, walk_events, events_on, events, main_entry, events_from, EachAfter, after}

abbrev pub InReached : (State → Type 0) → Reached → Type 0
InReached I (Moves k t) = I t
InReached I (Stops o z) = Unit {0}
InReached I (Traps o k) = Unit {0}

abbrev pub InDid : (State → Type 0) → Did → Type 0
InDid I (Goes t) = I t
InDid I (Reaches r) = InReached I r

pub record IsKept (p : Sealed) (input : List ℤ) (I : List Event → State → Type 0) : Type 0 where
  pub begin : (s : State) → start p input ≡ Some s → I (main_entry p s ∷ []) s
  pub keep : (past : List Event) (s : State) → I past s → InDid (I (after past (told p s))) (step p s)

-- the induction
pub holds : (p : Sealed) (input : List ℤ) (I : List Event → State → Type 0) → IsKept p input I → (past : List Event) (s : State) → Comes p input past s → I past s
holds p input I kept _ _ (begins s e) = kept.begin s e
holds p input I kept _ _ (goes past s t c e) = subst (InDid (I (after past (told p s)))) e (kept.keep past s (holds p input I kept past s c))
holds p input I kept _ _ (moves past k s t c e) = subst (InDid (I (after past (told p s)))) e (kept.keep past s (holds p input I kept past s c))

-- the same, where each state is known to come up
pub holds_with : (p : Sealed) (input : List ℤ) (I : List Event → State → Type 0) → ((s : State) → start p input ≡ Some s → I (main_entry p s ∷ []) s) →
    ((past : List Event) (s : State) → Comes p input past s → I past s → InDid (I (after past (told p s))) (step p s)) → (past : List Event) (s : State) → Comes p input past s → I past s
holds_with p input I begin keep _ _ (begins s e) = begin s e
holds_with p input I begin keep _ _ (goes past s t c e) = subst (InDid (I (after past (told p s)))) e (keep past s c (holds_with p input I begin keep past s c))
holds_with p input I begin keep _ _ (moves past k s t c e) = subst (InDid (I (after past (told p s)))) e (keep past s c (holds_with p input I begin keep past s c))

-- ---- lists of events

pub each_append : (Q : List Event → Event → Type 0) (past es fs : List Event) → EachAfter Q past es → EachAfter Q (after past es) fs → EachAfter Q past (es ++ fs)
each_append Q past [] fs a b = b
each_append Q past (e ∷ es) fs a b = (a.0, each_append Q (e ∷ past) es fs a.1 b)

pub each_first : (Q : List Event → Event → Type 0) (past es fs : List Event) → EachAfter Q past (es ++ fs) → EachAfter Q past es
each_first Q past [] fs a = tt
each_first Q past (e ∷ es) fs a = (a.0, each_first Q (e ∷ past) es fs a.1)

pub each_last : (Q : List Event → Event → Type 0) (past es fs : List Event) → EachAfter Q past (es ++ fs) → EachAfter Q (after past es) fs
each_last Q past [] fs a = a
each_last Q past (e ∷ es) fs a = each_last Q (e ∷ past) es fs a.1

-- ---- from the states to the list

-- what is said of each state that comes up
abbrev pub AtEach : Sealed → List ℤ → (List Event → Event → Type 0) → Type 0
AtEach p input Q = (past : List Event) (s : State) → Comes p input past s → EachAfter Q past (told p s)

unmade : (Q : List Event → Event → Type 0) (p : Sealed) (past : List Event) (made : Bool) (xs : List Stmt) (s : State) → EachAfter Q past (told_by p true xs s) → EachAfter Q past (told_by p made xs s)
unfolding told_by
unmade Q p past true xs s a = a
unmade Q p past false xs s a = (a.0, each_append Q _ (access p.program.globals xs s) [] (each_first Q _ (access p.program.globals xs s) _ a.1) tt)

pub after_append : (past es fs : List Event) → after past (es ++ fs) ≡ after (after past es) fs
after_append past [] fs = refl
after_append past (e ∷ es) fs = after_append (e ∷ past) es fs

record Walked (p : Sealed) (input : List ℤ) (Q : List Event → Event → Type 0) (past : List Event) (made : Bool) (es : List Event) (r : Reached) : Type 0 where
  each : EachAfter Q past es
  next : made ≡ true → InReached (Comes p input (after past es)) r

arrives : (p : Sealed) (input : List ℤ) (past : List Event) (s : State) → Comes p input past s → (r : Reached) → step p s ≡ Reaches r → InReached (Comes p input (after past (told p s))) r
arrives p input past s c (Moves k t) e = moves past k s t c e
arrives p input past s c (Stops o z) e = tt
arrives p input past s c (Traps o k) e = tt

walked_did : (p : Sealed) (input : List ℤ) (Q : List Event → Event → Type 0) (past : List Event) (made : Bool) (s : State) (x : Stmt) (xs : List Stmt) → Comes p input past s → s.top.rest ≡ x ∷ xs → AtEach p input Q → ((past : List Event) (t : State) → Comes p input past t → t.top.rest ≡ xs → Walked p input Q past made (walk_events p made xs t) (walk p xs t)) → (d : Did) → stepped p s (x ∷ xs) ≡ d → KeepsRest xs d → Walked p input Q past made (told_by p made (x ∷ xs) s ++ events_after d (walk_events p made xs)) (then_walk d (walk p xs))
walked_did p input Q past made s x xs c e all more (Goes t) f k =
    let same : told_by p made (x ∷ xs) s ≡ told_by p true (x ∷ xs) s = same_told p made (x ∷ xs) s t f in
    let here : EachAfter Q past (told_by p true (x ∷ xs) s) = subst (λ ys. EachAfter Q past (told_by p true ys s)) e (all past s c) in
    let there : Comes p input (after past (told_by p true (x ∷ xs) s)) t = subst (λ ys. Comes p input (after past (told_by p true ys s)) t) e (goes past s t c (ap (stepped p s) e ∙ f)) in
    let rest : Walked p input Q (after past (told_by p true (x ∷ xs) s)) made (walk_events p made xs t) (walk p xs t) = more _ t there k in
    rw same
    (record {
      each = each_append Q past (told_by p true (x ∷ xs) s) (walk_events p made xs t) here rest.each;
      next = λ m. subst (λ h. InReached (Comes p input h) (walk p xs t)) (sym (after_append past (told_by p true (x ∷ xs) s) (walk_events p made xs t))) (rest.next m);
    })
walked_did p input Q past made s x xs c e all more (Reaches r) f k =
    let here : EachAfter Q past (told_by p true (x ∷ xs) s) = subst (λ ys. EachAfter Q past (told_by p true ys s)) e (all past s c) in
    record {
      each = each_append Q past (told_by p made (x ∷ xs) s) [] (unmade Q p past made (x ∷ xs) s here) tt;
      next = λ m.
          subst (λ h. InReached (Comes p input h) r) (sym (after_append past (told_by p made (x ∷ xs) s) []))
          (subst (λ b. InReached (Comes p input (after past (told_by p b (x ∷ xs) s))) r) (sym m)
          (subst (λ ys. InReached (Comes p input (after past (told_by p true ys s))) r) e (arrives p input past s c r (ap (stepped p s) e ∙ f))));
    }

walked : (p : Sealed) (input : List ℤ) (Q : List Event → Event → Type 0) → AtEach p input Q → (made : Bool) (xs : List Stmt) (past : List Event) (s : State) → Comes p input past s → s.top.rest ≡ xs → Walked p input Q past made (walk_events p made xs s) (walk p xs s)
unfolding walk walk_events
walked p input Q all made [] past s c e =
    let here : EachAfter Q past (told_by p true [] s) = subst (λ ys. EachAfter Q past (told_by p true ys s)) e (all past s c) in
    record {
      each = unmade Q p past made [] s here;
      next = λ m.
          subst (λ b. InReached (Comes p input (after past (told_by p b [] s))) (finish p.program.globals s.top.end s)) (sym m)
          (subst (λ ys. InReached (Comes p input (after past (told_by p true ys s))) (finish p.program.globals s.top.end s)) e (arrives p input past s c _ (ap (stepped p s) e)));
    }
walked p input Q all made (x ∷ xs) past s c e =
    walked_did p input Q past made s x xs c e all (walked p input Q all made xs) (perform p x (resumed s xs)) refl (perform_rest p x (resumed s xs))

each_on : (p : Sealed) (input : List ℤ) (Q : List Event → Event → Type 0) (past : List Event) (r : Reached) (on : State → List Event) → InReached (Comes p input past) r → ((t : State) → Comes p input past t → EachAfter Q past (on t)) → EachAfter Q past (events_on r on)
each_on p input Q past (Moves k t) on c more = more t c
each_on p input Q past (Stops o z) on c more = tt
each_on p input Q past (Traps o k) on c more = tt

each_event : (p : Sealed) (input : List ℤ) (Q : List Event → Event → Type 0) → AtEach p input Q → (n : ℕ) (past : List Event) (s : State) → Comes p input past s → EachAfter Q past (events p n s)
unfolding events
each_event p input Q all zero past s c = (walked p input Q all false s.top.rest past s c refl).each
each_event p input Q all (suc n) past s c =
    let w : Walked p input Q past true (walk_events p true s.top.rest s) (walk p s.top.rest s) = walked p input Q all true s.top.rest past s c refl in
    each_append Q past (walk_events p true s.top.rest s) _ w.each
    (each_on p input Q _ (walk p s.top.rest s) (events p n) (w.next refl) (λ t d. each_event p input Q all n _ t d))

-- a claim of main's entry and of what each state tells holds in the run
pub in_run_of : (p : Sealed) (input : List ℤ) (Q : List Event → Event → Type 0) → AtEach p input Q → (n : ℕ) (o : Option State) → start p input ≡ o → ((s : State) → o ≡ Some s → Q [] (main_entry p s)) → EachAfter Q [] (events_from p n o)
in_run_of p input Q all n None e first = tt
in_run_of p input Q all n (Some s) e first = (first s refl, each_event p input Q all n _ s (begins s e))
