-- Relations between two runs that speak of what has happened in both.
use Rattle.std.proofs.Common.{◌≡◌, ℕ, ℤ, List, [], ◌∷◌, refl, sym, subst, Option, Some, None}
use Rattle.gimple_core.specs.Sealed.{Sealed}
use Rattle.gimple_ir.specs.declared.statement.Stmt.{Stmt}
use Rattle.gimple_core.specs.State.{State}
use Rattle.gimple_core.specs.Run.{Reached, Moves, Stops, Traps, Did, Goes, Reaches, Transfer, perform, finish, resumed, stepped, step, start, then_walk, walk, runs_from, Run}
use Rattle.gimple_core.proofs.Simulation.{Matches, Does, Stands, Follows, Simulates, runs_same, KeepsRest, perform_rest}
use Rattle.gimple_core.specs.Trace.{Event, main_entry, told, after}
use Rattle.gimple_core.proofs.StepLemmas.{walk_step}
use Rattle.gimple_claims.proofs.Comes.{InDid, InReached, Comes, begins, goes, moves}

-- ---- one step for one

-- related states after these events of both runs
pub record Along (p q : Sealed) (input : List ℤ) (R : List Event → List Event → State → State → Type 0) (s t : State) : Type 0 where
  pub past : List Event
  pub hist : List Event
  pub comes : Comes p input past s
  pub arrives : Comes q input hist t
  pub related : R past hist s t

pub record StepsAlike (p q : Sealed) (input : List ℤ) (R : List Event → List Event → State → State → Type 0) : Type 0 where
  pub output : (past hist : List Event) (s t : State) → R past hist s t → s.world.output ≡ t.world.output
  pub steps : (past hist : List Event) (s t : State) → Comes p input past s → Comes q input hist t → R past hist s t → Does (R (after past (told p s)) (after hist (told q t))) (step p s) (step q t)

-- the two begin in related states, or neither begins
abbrev pub StartAlike : Sealed → Sealed → (List Event → List Event → State → State → Type 0) → Option State → Option State → Type 0
StartAlike p q R None None = Unit {0}
StartAlike p q R None (Some t) = ⊥
StartAlike p q R (Some s) None = ⊥
StartAlike p q R (Some s) (Some t) = R (main_entry p s ∷ []) (main_entry q t ∷ []) s t

module _ (p q : Sealed) (input : List ℤ) (R : List Event → List Event → State → State → Type 0) (alike : StepsAlike p q input R) where
  matches_along : (past hist : List Event) (a b : Reached) → Matches (R past hist) a b → InReached (Comes p input past) a → InReached (Comes q input hist) b → Matches (Along p q input R) a b
  matches_along past hist (Moves k s) (Moves j t) m c d = record { past = past; hist = hist; comes = c; arrives = d; related = m }
  matches_along past hist (Moves k s) (Stops o z) m c d = absurd m
  matches_along past hist (Moves k s) (Traps o j) m c d = absurd m
  matches_along past hist (Stops o z) (Moves k t) m c d = absurd m
  matches_along past hist (Stops o z) (Stops o' z') m c d = m
  matches_along past hist (Stops o z) (Traps o' j) m c d = absurd m
  matches_along past hist (Traps o k) (Moves j t) m c d = absurd m
  matches_along past hist (Traps o k) (Stops o' z) m c d = absurd m
  matches_along past hist (Traps o k) (Traps o' j) m c d = m

  does_along : (past hist : List Event) (a b : Did) → Does (R past hist) a b → InDid (Comes p input past) a → InDid (Comes q input hist) b → Does (Along p q input R) a b
  does_along past hist (Goes s) (Goes t) m c d = record { past = past; hist = hist; comes = c; arrives = d; related = m }
  does_along past hist (Goes s) (Reaches b) m c d = absurd m
  does_along past hist (Reaches a) (Goes t) m c d = absurd m
  does_along past hist (Reaches a) (Reaches b) m c d = matches_along past hist a b m c d

  comes_next : (r : Sealed) (past : List Event) (s : State) → Comes r input past s → (d : Did) → step r s ≡ d → InDid (Comes r input (after past (told r s))) d
  comes_next r past s c (Goes t) e = goes past s t c e
  comes_next r past s c (Reaches (Moves k t)) e = moves past k s t c e
  comes_next r past s c (Reaches (Stops o z)) e = tt
  comes_next r past s c (Reaches (Traps o k)) e = tt

  steps_along : (s t : State) → Along p q input R s t → Does (Along p q input R) (step p s) (step q t)
  steps_along s t a = does_along _ _ (step p s) (step q t) (alike.steps a.past a.hist s t a.comes a.arrives a.related) (comes_next p a.past s a.comes (step p s) refl) (comes_next q a.hist t a.arrives (step q t) refl)

  end_along : (a : Reached) (d : Did) → Does (Along p q input R) (Reaches a) d → Matches (Along p q input R) a (then_walk d (λ u. walk q u.top.rest u))
  end_along a (Goes t) m = absurd m
  end_along a (Reaches b) m = m

  did_along : (xs : List Stmt) (c d : Did) → Does (Along p q input R) c d → KeepsRest xs c → ((s t : State) → Along p q input R s t → s.top.rest ≡ xs → Matches (Along p q input R) (walk p xs s) (walk q t.top.rest t)) →
      Matches (Along p q input R) (then_walk c (walk p xs)) (then_walk d (λ u. walk q u.top.rest u))
  did_along xs (Goes s) (Goes t) m k more = more s t m k
  did_along xs (Goes s) (Reaches b) m k more = absurd m
  did_along xs (Reaches a) (Goes t) m k more = absurd m
  did_along xs (Reaches a) (Reaches b) m k more = m

  walk_along : (xs : List Stmt) (s t : State) → Along p q input R s t → s.top.rest ≡ xs → Matches (Along p q input R) (walk p xs s) (walk q t.top.rest t)
  unfolding walk
  walk_along [] s t a e =
      subst (Matches (Along p q input R) (walk p [] s)) (sym (walk_step q t.top.rest t))
      (end_along (finish p.program.globals s.top.end s) (step q t) (subst (λ ys. Does (Along p q input R) (stepped p s ys) (step q t)) e (steps_along s t a)))
  walk_along (x ∷ xs) s t a e =
      subst (Matches (Along p q input R) (walk p (x ∷ xs) s)) (sym (walk_step q t.top.rest t))
      (did_along xs (perform p x (resumed s xs)) (step q t) (subst (λ ys. Does (Along p q input R) (stepped p s ys) (step q t)) e (steps_along s t a)) (perform_rest p x (resumed s xs)) (walk_along xs))

  alike_simulates : Simulates p q (Along p q input R)
  alike_simulates = record { output = λ s t a. alike.output a.past a.hist s t a.related; segment = λ s t a. walk_along s.top.rest s t a refl }

  runs_alike : (n : ℕ) (o r : Option State) → start p input ≡ o → start q input ≡ r → StartAlike p q R o r → runs_from p n o ≡ runs_from q n r
  runs_alike n None None e f h = refl
  runs_alike n None (Some t) e f h = absurd h
  runs_alike n (Some s) None e f h = absurd h
  runs_alike n (Some s) (Some t) e f h = runs_same p q (Along p q input R) alike_simulates n s t (record { past = _; hist = _; comes = begins s e; arrives = begins t f; related = h })

  -- the two come to the same
  pub run_alike : (n : ℕ) → StartAlike p q R (start p input) (start q input) → Run p input n ≡ Run q input n
  unfolding Run
  run_alike n h = runs_alike n (start p input) (start q input) refl refl h

  -- ---- from the second program to the first: what comes up in it stands beside something that comes up in the first

  pub record Beside (hist : List Event) (t : State) : Type 0 where
    pub past : List Event
    pub state : State
    pub comes : Comes p input past state
    pub related : R past hist state t

  begins_beside : (t : State) (o r : Option State) → start p input ≡ o → r ≡ Some t → StartAlike p q R o r → Beside (main_entry q t ∷ []) t
  begins_beside t None None e f h = cc
  begins_beside t None (Some u) e f h = absurd h
  begins_beside t (Some s) None e f h = absurd h
  begins_beside t (Some s) (Some u) e f h = let same : u ≡ t = cc in subst (λ v. Beside (main_entry q v ∷ []) v) same (record { past = _; state = s; comes = begins s e; related = h })

  goes_beside : (past hist : List Event) (s u : State) (d : Did) → step p s ≡ d → Comes p input past s → Does (R (after past (told p s)) hist) d (Goes u) → Beside hist u
  goes_beside past hist s u (Goes v) e c m = record { past = _; state = v; comes = goes past s v c e; related = m }
  goes_beside past hist s u (Reaches a) e c m = absurd m

  moves_beside : (past hist : List Event) (k : Transfer) (s u : State) (d : Did) → step p s ≡ d → Comes p input past s → Does (R (after past (told p s)) hist) d (Reaches (Moves k u)) → Beside hist u
  moves_beside past hist k s u (Goes v) e c m = absurd m
  moves_beside past hist k s u (Reaches (Moves j v)) e c m = record { past = _; state = v; comes = moves past j s v c e; related = m }
  moves_beside past hist k s u (Reaches (Stops o z)) e c m = absurd m
  moves_beside past hist k s u (Reaches (Traps o z)) e c m = absurd m

  pub beside : StartAlike p q R (start p input) (start q input) → (hist : List Event) (t : State) → Comes q input hist t → Beside hist t
  beside h _ _ (begins t e) = begins_beside t (start p input) (start q input) refl e h
  beside h _ _ (goes hist t u c e) =
      let b : Beside hist t = beside h hist t c in
      goes_beside b.past _ b.state u (step p b.state) refl b.comes (subst (Does (R (after b.past (told p b.state)) (after hist (told q t))) (step p b.state)) e (alike.steps b.past hist b.state t b.comes c b.related))
  beside h _ _ (moves hist k t u c e) =
      let b : Beside hist t = beside h hist t c in
      moves_beside b.past _ k b.state u (step p b.state) refl b.comes (subst (Does (R (after b.past (told p b.state)) (after hist (told q t))) (step p b.state)) e (alike.steps b.past hist b.state t b.comes c b.related))

-- ---- some statements for one

pub record WithPast (p : Sealed) (input : List ℤ) (R : List Event → State → State → Type 0) (s t : State) : Type 0 where
  pub past : List Event
  pub comes : Comes p input past s
  pub related : R past s t

pub record FollowsAlong (p q : Sealed) (input : List ℤ) (R : List Event → State → State → Type 0) : Type 0 where
  pub output : (past : List Event) (s t : State) → R past s t → s.world.output ≡ t.world.output
  pub stmt : (past : List Event) (s t : State) (x : Stmt) (xs : List Stmt) → Comes p input past s → R past s t → s.top.rest ≡ x ∷ xs → Stands p q (R (after past (told p s))) s x xs t
  pub last : (past : List Event) (s t : State) → Comes p input past s → R past s t → s.top.rest ≡ [] → t.top.rest ≡ []
  pub end : (past : List Event) (s t : State) → Comes p input past s → R past s t → s.top.rest ≡ [] → Matches (R (after past (told p s))) (finish p.program.globals s.top.end s) (finish q.program.globals t.top.end t)

module _ (p q : Sealed) (input : List ℤ) (R : List Event → State → State → Type 0) where
  matches_past : (past : List Event) (a b : Reached) → Matches (R past) a b → InReached (Comes p input past) a → Matches (WithPast p input R) a b
  matches_past past (Moves k s) (Moves j t) m c = record { past = past; comes = c; related = m }
  matches_past past (Moves k s) (Stops o z) m c = absurd m
  matches_past past (Moves k s) (Traps o j) m c = absurd m
  matches_past past (Stops o z) (Moves k t) m c = absurd m
  matches_past past (Stops o z) (Stops o' z') m c = m
  matches_past past (Stops o z) (Traps o' j) m c = absurd m
  matches_past past (Traps o k) (Moves j t) m c = absurd m
  matches_past past (Traps o k) (Stops o' z) m c = absurd m
  matches_past past (Traps o k) (Traps o' j) m c = m

  does_past : (past : List Event) (a b : Did) → Does (R past) a b → InDid (Comes p input past) a → Does (WithPast p input R) a b
  does_past past (Goes s) (Goes t) m c = record { past = past; comes = c; related = m }
  does_past past (Goes s) (Reaches b) m c = absurd m
  does_past past (Reaches a) (Goes t) m c = absurd m
  does_past past (Reaches a) (Reaches b) m c = matches_past past a b m c

  next_past : (past : List Event) (s : State) → Comes p input past s → (d : Did) → step p s ≡ d → InDid (Comes p input (after past (told p s))) d
  next_past past s c (Goes t) e = goes past s t c e
  next_past past s c (Reaches (Moves k t)) e = moves past k s t c e
  next_past past s c (Reaches (Stops o z)) e = tt
  next_past past s c (Reaches (Traps o k)) e = tt

  pub follows_along : FollowsAlong p q input R → Follows p q (WithPast p input R)
  follows_along f = record {
    output = λ s t r. f.output r.past s t r.related;
    stmt = λ s t x xs r e.
        let a : Stands p q (R (after r.past (told p s))) s x xs t = f.stmt r.past s t x xs r.comes r.related e in
        record { now = a.now; later = a.later; splits = a.splits; does = does_past _ _ _ a.does (subst (λ ys. InDid (Comes p input (after r.past (told p s))) (stepped p s ys)) e (next_past r.past s r.comes (step p s) refl)) };
    last = λ s t r e. f.last r.past s t r.comes r.related e;
    end = λ s t r e. matches_past _ _ _ (f.end r.past s t r.comes r.related e) (subst (λ ys. InDid (Comes p input (after r.past (told p s))) (stepped p s ys)) e (next_past r.past s r.comes (step p s) refl));
  }
