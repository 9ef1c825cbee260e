-- Claims of the events at points, and facts that hold in every run.
use Rattle.std.proofs.Common.{◌≡◌, ℕ, ℤ, true, List, [], ◌∷◌, ◌++◌, subst}
use Rattle.std.specs.List.{AllByRecursion}
use Rattle.gimple_core.specs.Sealed.{Sealed}
use Rattle.gimple_ir.specs.declared.declarations.Global.{Global}
use Rattle.gimple_ir.specs.declared.program.Function.{Function}
use Rattle.gimple_ir.specs.declared.statement.Stmt.{Stmt}
use Rattle.gimple_core.specs.State.{State}
use Rattle.gimple_core.specs.Run.{Moves, Stops, Traps, Did, Goes, Reaches, CallEntry, CallReturn, Jump, stepped}
use Rattle.gimple_core.specs.Trace.{Event, Entry, At, Load, Store, Leave, told_by, told, access, accesses, crossing, after, EachAfter}
use Rattle.gimple_claims.specs.Bodies.{Facts, MeetsAt, Meets, FactsClaim}
use Rattle.gimple_claims.proofs.Accesses.{access_all}
use Rattle.gimple_claims.proofs.Comes.{Comes, InDid, AtEach, each_append}
use Rattle.gimple_claims.proofs.OneRun.{EachBefore}

-- ---- what the events tell

pub in_did_always : (I : State → Type 0) → ((t : State) → I t) → (d : Did) → InDid I d
in_did_always I f (Goes t) = f t
in_did_always I f (Reaches (Moves k t)) = f t
in_did_always I f (Reaches (Stops o z)) = tt
in_did_always I f (Reaches (Traps o k)) = tt

pub before : (P : Event → Type 0) (past es : List Event) → AllByRecursion P (after past es) → AllByRecursion P past
before P past [] h = h
before P past (e ∷ es) h = let rest : AllByRecursion P (e ∷ past) = before P (e ∷ past) es h in rest.1

pub lately : (P : Event → Type 0) (past es : List Event) → AllByRecursion P (after past es) → AllByRecursion P es
lately P past [] h = tt
lately P past (e ∷ es) h = let rest : AllByRecursion P (e ∷ past) = before P (e ∷ past) es h in (rest.0, lately P (e ∷ past) es h)

each_of_first : (P : Event → Type 0) (es fs : List Event) → AllByRecursion P (es ++ fs) → AllByRecursion P es
each_of_first P [] fs h = tt
each_of_first P (e ∷ es) fs h = (h.0, each_of_first P es fs h.1)

pub accesses_meet : (p : Sealed) (P : Event → Type 0) (past : List Event) (s : State) (x : Stmt) (xs : List Stmt) → s.top.rest ≡ x ∷ xs → AllByRecursion P (after past (told p s)) → AllByRecursion P (accesses p.program.globals x s)
unfolding told_by
accesses_meet p P past s x xs e h =
    let all : AllByRecursion P (told_by p true (x ∷ xs) s) = subst (λ ys. AllByRecursion P (told_by p true ys s)) e (lately P past (told p s) h) in
    each_of_first P (accesses p.program.globals x s) _ all.1

-- ---- claims of the events at points

abbrev pub NotAt : Event → Type 0
NotAt (Entry s g arguments m caller) = Unit {0}
NotAt (At c w) = ⊥
NotAt (Load c scalar object offset v) = Unit {0}
NotAt (Store c scalar object offset v) = Unit {0}
NotAt (Leave s) = Unit {0}

crossing_quiet : (globals : List Global) (xs : List Stmt) (s : State) (d : Did) → AllByRecursion NotAt (crossing globals xs s d)
crossing_quiet globals xs s (Goes t) = tt
crossing_quiet globals xs s (Reaches (Moves CallEntry t)) = (tt, tt)
crossing_quiet globals xs s (Reaches (Moves CallReturn t)) = (tt, tt)
crossing_quiet globals xs s (Reaches (Moves Jump t)) = tt
crossing_quiet globals xs s (Reaches (Stops o z)) = (tt, tt)
crossing_quiet globals xs s (Reaches (Traps o k)) = tt

-- a claim of the events at points alone
abbrev pub IsQuiet : (List Event → Event → Type 0) → Type 0
IsQuiet Q = (past : List Event) (e : Event) → NotAt e → Q past e

quiet_each : (Q : List Event → Event → Type 0) → IsQuiet Q → (past es : List Event) → AllByRecursion NotAt es → EachAfter Q past es
quiet_each Q q past [] h = tt
quiet_each Q q past (e ∷ es) h = (q past e h.0, quiet_each Q q (e ∷ past) es h.1)

-- such a claim holds of what a state tells where it holds at the point
pub points_each : (p : Sealed) (Q : List Event → Event → Type 0) (input : List ℤ) → IsQuiet Q → ((past : List Event) (s : State) → Comes p input past s → Q past (At s.top s.world)) → AtEach p input Q
unfolding told_by
points_each p Q input q at past s c = (
  at past s c,
  each_append Q _ (access p.program.globals s.top.rest s) _ (quiet_each Q q _ _ (access_all NotAt s (λ scalar f. tt) (λ scalar f v. tt) p.program.globals s.top.rest)) (quiet_each Q q _ _ (crossing_quiet p.program.globals s.top.rest s (stepped p s s.top.rest))),
)

-- ---- facts that hold in every run

meets_at : (f : Function) (facts : Facts) (serial : ℕ) (past : List Event) (e : Event) → FactsClaim f facts past e → MeetsAt f facts serial e
meets_at f facts serial past (Entry s g arguments m caller) h = λ same. h
meets_at f facts serial past (At c w) h = tt
meets_at f facts serial past (Load c scalar object offset v) h = λ same. h
meets_at f facts serial past (Store c scalar object offset v) h = tt
meets_at f facts serial past (Leave s) h = tt

pub meets_of : (f : Function) (facts : Facts) (serial : ℕ) (past : List Event) → EachBefore (FactsClaim f facts) past → Meets f facts serial past
meets_of f facts serial [] h = tt
meets_of f facts serial (e ∷ es) h = (meets_at f facts serial es e h.0, meets_of f facts serial es h.1)
