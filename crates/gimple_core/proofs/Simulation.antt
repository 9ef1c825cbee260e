-- Two programs that run alike, by a relation between their states.
use Rattle.std.proofs.Common.{◌≡◌, ℕ, zero, suc, List, [], ◌∷◌, ◌++◌, refl, sym, ap, subst, Option, Some, None, Result, Ok, Err}
use Rattle.gimple_core.specs.Sealed.{Sealed}
use Rattle.gimple_ir.specs.declared.statement.Stmt.{Stmt}
use Rattle.gimple_ir.specs.declared.value.Outcome.{Outcome}
use Rattle.gimple_ir.specs.declared.value.Outcome.TheVariants.{Going}
use Rattle.gimple_ir.specs.declared.value.TrapKind.{TrapKind}
use Rattle.gimple_core.specs.State.{World, State, scope_of, setting_of}
use Rattle.gimple_core.specs.Run.{Calling, call_of, performed, act, acted, Reached, Moves, Stops, Traps, Did, Goes, Reaches, perform, finish, resumed, then_walk, walk, paused, then_run, runs}

-- the same way to end, in related states
abbrev pub Matches : (State → State → Type 0) → Reached → Reached → Type 0
Matches R (Moves k s) (Moves j t) = R s t
Matches R (Moves k s) (Stops o z) = ⊥
Matches R (Moves k s) (Traps o j) = ⊥
Matches R (Stops o z) (Moves k t) = ⊥
Matches R (Stops o z) (Stops o' z') = (o ≡ o') × (z ≡ z')
Matches R (Stops o z) (Traps o' j) = ⊥
Matches R (Traps o k) (Moves j t) = ⊥
Matches R (Traps o k) (Stops o' z) = ⊥
Matches R (Traps o k) (Traps o' j) = (o ≡ o') × (k ≡ j)

-- what lies between two transfers keeps the relation
pub record Simulates (p q : Sealed) (R : State → State → Type 0) : Type 0 where
  pub output : (s t : State) → R s t → s.world.output ≡ t.world.output
  pub segment : (s t : State) → R s t → Matches R (walk p s.top.rest s) (walk q t.top.rest t)

paused_same : (R : State → State → Type 0) → ((s t : State) → R s t → s.world.output ≡ t.world.output) → (a b : Reached) → Matches R a b → paused a ≡ paused b
paused_same R o (Moves k s) (Moves j t) r = ap Going (o s t r)
paused_same R o (Moves k s) (Stops u z) r = absurd r
paused_same R o (Moves k s) (Traps u j) r = absurd r
paused_same R o (Stops u z) (Moves k t) r = absurd r
paused_same R o (Stops u z) (Stops v w) r = ap Going r.0
paused_same R o (Stops u z) (Traps v j) r = absurd r
paused_same R o (Traps u k) (Moves j t) r = absurd r
paused_same R o (Traps u k) (Stops v z) r = absurd r
paused_same R o (Traps u k) (Traps v j) r = let a = r.0 in let b = r.1 in cc

run_same : (R : State → State → Type 0) (f g : State → Outcome) → ((s t : State) → R s t → f s ≡ g t) → (a b : Reached) → Matches R a b → then_run a f ≡ then_run b g
run_same R f g o (Moves k s) (Moves j t) r = o s t r
run_same R f g o (Moves k s) (Stops u z) r = absurd r
run_same R f g o (Moves k s) (Traps u j) r = absurd r
run_same R f g o (Stops u z) (Moves k t) r = absurd r
run_same R f g o (Stops u z) (Stops v w) r = let a = r.0 in let b = r.1 in cc
run_same R f g o (Stops u z) (Traps v j) r = absurd r
run_same R f g o (Traps u k) (Moves j t) r = absurd r
run_same R f g o (Traps u k) (Stops v z) r = absurd r
run_same R f g o (Traps u k) (Traps v j) r = let a = r.0 in let b = r.1 in cc

-- runs from related states come to the same
pub runs_same : (p q : Sealed) (R : State → State → Type 0) → Simulates p q R → (n : ℕ) (s t : State) → R s t → runs p n s ≡ runs q n t
unfolding runs
runs_same p q R sim zero s t r = paused_same R sim.output (walk p s.top.rest s) (walk q t.top.rest t) (sim.segment s t r)
runs_same p q R sim (suc n) s t r =
    run_same R (runs p n) (runs q n) (runs_same p q R sim n) (walk p s.top.rest s) (walk q t.top.rest t) (sim.segment s t r)

-- ---- statement by statement

abbrev pub then_do : Did → (State → Did) → Did
then_do (Goes t) on = on t
then_do (Reaches r) on = Reaches r

-- some statements one after another, in front of others
abbrev pub performs : Sealed → List Stmt → List Stmt → State → Did
performs p [] rest s = Goes s
performs p (x ∷ xs) rest s = then_do (perform p x (resumed s (xs ++ rest))) (performs p xs rest)

-- the same thing done, in related states
abbrev pub Does : (State → State → Type 0) → Did → Did → Type 0
Does R (Goes s) (Goes t) = R s t
Does R (Goes s) (Reaches b) = ⊥
Does R (Reaches a) (Goes t) = ⊥
Does R (Reaches a) (Reaches b) = Matches R a b

-- What stands for one statement: some of the second program's, after which the states are related again. `Does` asks for
-- the relation alone, since no statement changes what is left of the body.
pub record Stands (p q : Sealed) (R : State → State → Type 0) (s : State) (x : Stmt) (xs : List Stmt) (t : State) : Type 0 where
  pub now : List Stmt
  pub later : List Stmt
  pub splits : t.top.rest ≡ now ++ later
  pub does : Does R (perform p x (resumed s xs)) (performs q now later t)

-- each statement has some that stand for it, and the ends match
pub record Follows (p q : Sealed) (R : State → State → Type 0) : Type 0 where
  pub output : (s t : State) → R s t → s.world.output ≡ t.world.output
  pub stmt : (s t : State) (x : Stmt) (xs : List Stmt) → R s t → s.top.rest ≡ x ∷ xs → Stands p q R s x xs t
  pub last : (s t : State) → R s t → s.top.rest ≡ [] → t.top.rest ≡ []
  pub end : (s t : State) → R s t → s.top.rest ≡ [] → Matches R (finish p.program.globals s.top.end s) (finish q.program.globals t.top.end t)

walk_performs_of : (p : Sealed) (zs : List Stmt) (ys : List Stmt) (d : Did) → ((s : State) → walk p (ys ++ zs) s ≡ then_walk (performs p ys zs s) (walk p zs)) → then_walk d (walk p (ys ++ zs)) ≡ then_walk (then_do d (performs p ys zs)) (walk p zs)
walk_performs_of p zs ys (Goes t) more = more t
walk_performs_of p zs ys (Reaches r) more = refl

-- a walk is some statements and then a walk
pub walk_performs : (p : Sealed) (ys zs : List Stmt) (s : State) → walk p (ys ++ zs) s ≡ then_walk (performs p ys zs s) (walk p zs)
unfolding walk
walk_performs p [] zs s = refl
walk_performs p (y ∷ ys) zs s =
    walk_performs_of p zs ys (perform p y (resumed s (ys ++ zs))) (walk_performs p ys zs)

-- ---- no statement changes what is left of the body

abbrev pub KeepsRest : List Stmt → Did → Type 0
KeepsRest rest (Goes t) = t.top.rest ≡ rest
KeepsRest rest (Reaches r) = Unit {0}

rest_of_acted : (s : State) (r : Result World TrapKind) → KeepsRest s.top.rest (acted s r)
rest_of_acted s (Ok w) = refl
rest_of_acted s (Err k) = tt

rest_of_performed : (p : Sealed) (c : Option Calling) (x : Stmt) (s : State) → KeepsRest s.top.rest (performed p c x s)
rest_of_performed p None x s = rest_of_acted s (act (setting_of p) (scope_of s.top) x s.world)
rest_of_performed p (Some c) x s = tt

pub perform_rest : (p : Sealed) (x : Stmt) (s : State) → KeepsRest s.top.rest (perform p x s)
perform_rest p x s = rest_of_performed p (call_of x) x s

performs_rest_of : (p : Sealed) (ys zs : List Stmt) (d : Did) → KeepsRest (ys ++ zs) d → ((s : State) → s.top.rest ≡ ys ++ zs → KeepsRest zs (performs p ys zs s)) → KeepsRest zs (then_do d (performs p ys zs))
performs_rest_of p ys zs (Goes t) e more = more t e
performs_rest_of p ys zs (Reaches r) e more = tt

pub performs_rest : (p : Sealed) (ys zs : List Stmt) (s : State) → s.top.rest ≡ ys ++ zs → KeepsRest zs (performs p ys zs s)
performs_rest p [] zs s e = e
performs_rest p (y ∷ ys) zs s e =
    performs_rest_of p ys zs (perform p y (resumed s (ys ++ zs))) (perform_rest p y (resumed s (ys ++ zs))) (performs_rest p ys zs)

-- ---- from statements to walks

walk_follows_of : (p q : Sealed) (R : State → State → Type 0) (xs zs : List Stmt) (c d : Did) → KeepsRest xs c → KeepsRest zs d → Does R c d → ((s t : State) → R s t → s.top.rest ≡ xs → Matches R (walk p xs s) (walk q t.top.rest t)) → Matches R (then_walk c (walk p xs)) (then_walk d (walk q zs))
walk_follows_of p q R xs zs (Goes s) (Goes t) k l r more = subst (λ ws. Matches R (walk p xs s) (walk q ws t)) l (more s t r k)
walk_follows_of p q R xs zs (Goes s) (Reaches b) k l r more = absurd r
walk_follows_of p q R xs zs (Reaches a) (Goes t) k l r more = absurd r
walk_follows_of p q R xs zs (Reaches a) (Reaches b) k l r more = r

walk_follows_stmt : (p q : Sealed) (R : State → State → Type 0) (x : Stmt) (xs : List Stmt) (s t : State) → Stands p q R s x xs t → ((s t : State) → R s t → s.top.rest ≡ xs → Matches R (walk p xs s) (walk q t.top.rest t)) → Matches R (then_walk (perform p x (resumed s xs)) (walk p xs)) (walk q t.top.rest t)
walk_follows_stmt p q R x xs s t a more =
    subst (λ ws. Matches R (then_walk (perform p x (resumed s xs)) (walk p xs)) (walk q ws t)) (sym a.splits)
    (rw walk_performs
    (walk_follows_of p q R xs a.later (perform p x (resumed s xs)) (performs q a.now a.later t)
    (perform_rest p x (resumed s xs)) (performs_rest q a.now a.later t a.splits) a.does more))

pub walk_follows : (p q : Sealed) (R : State → State → Type 0) → Follows p q R → (xs : List Stmt) (s t : State) → R s t → s.top.rest ≡ xs → Matches R (walk p xs s) (walk q t.top.rest t)
unfolding walk
walk_follows p q R f [] s t r e =
    subst (λ ws. Matches R (walk p [] s) (walk q ws t)) (sym (f.last s t r e)) (f.end s t r e)
walk_follows p q R f (x ∷ xs) s t r e = walk_follows_stmt p q R x xs s t (f.stmt s t x xs r e) (walk_follows p q R f xs)

-- a relation that statements and ends keep is one that a run keeps
pub simulates : (p q : Sealed) (R : State → State → Type 0) → Follows p q R → Simulates p q R
simulates p q R f = record { output = f.output; segment = λ s t r. walk_follows p q R f s.top.rest s t r refl }

-- ---- one statement for one

then_do_goes : (d : Did) → then_do d Goes ≡ d
then_do_goes (Goes t) = refl
then_do_goes (Reaches r) = refl

-- one statement stands for one
pub one : (p q : Sealed) (R : State → State → Type 0) (s : State) (x : Stmt) (xs : List Stmt) (t : State) (y : Stmt) (ys : List Stmt) → t.top.rest ≡ y ∷ ys → Does R (perform p x (resumed s xs)) (perform q y (resumed t ys)) → Stands p q R s x xs t
one p q R s x xs t y ys e d = record {
  now = y ∷ [];
  later = ys;
  splits = e;
  does = subst (λ c. Does R (perform p x (resumed s xs)) c) (sym (then_do_goes (perform q y (resumed t ys)))) d;
}
