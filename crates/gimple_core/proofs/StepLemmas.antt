-- One step of a run: its statement, its walk and its events.
use Rattle.std.proofs.Common.{◌≡◌, ℕ, zero, suc, Bool, true, false, if◌then◌else◌, List, [], ◌∷◌, ◌++◌, Option, refl, sym, ◌∙◌, ap, append_assoc, append-nil, Some}
use Rattle.gimple_core.specs.Sealed.{Sealed}
use Rattle.gimple_ir.specs.declared.operand.Operand.{Operand}
use Rattle.gimple_ir.specs.declared.statement.Stmt.{Stmt}
use Rattle.gimple_ir.specs.declared.statement.Stmt.TheVariants.{Copy, Arith, Compare, Convert, Load, Store, Call, Indirect, Get, Put, Abort}
use Rattle.gimple_core.specs.State.{State}
use Rattle.gimple_core.specs.Run.{Callee, Named, Through, Calling, call_of, Moves, Did, Goes, Reaches, Transfer, perform, resumed, stepped, step, then_walk, walk}
use Rattle.gimple_core.specs.Trace.{Event, crossing, told_by, told, events_after, walk_events, events_on, events}
use Rattle.gimple_core.proofs.Simulation.{KeepsRest, perform_rest}

-- the statement of a call
abbrev pub calling_stmt : Option (List ℕ) → List Operand → Callee → Stmt
calling_stmt to arguments (Named callee) = Call to callee arguments
calling_stmt to arguments (Through callee signature) = Indirect to signature callee arguments

-- a statement that calls is a call
pub call_is : (x : Stmt) (c : Calling) → call_of x ≡ Some c → x ≡ calling_stmt c.to c.arguments c.callee
call_is (Copy to from) c e = cc
call_is (Arith to left op right) c e = cc
call_is (Compare to left cmp right) c e = cc
call_is (Convert to scalar from) c e = cc
call_is (Load to scalar place) c e = cc
call_is (Store scalar place from) c e = cc
call_is (Call to callee arguments) c e = let same : record { to = to; callee = Named callee; arguments = arguments } ≡ c = cc in ap (λ (z : Calling). calling_stmt z.to z.arguments z.callee) same
call_is (Indirect to signature callee arguments) c e =
    let same : record { to = to; callee = Through callee signature; arguments = arguments } ≡ c = cc in ap (λ (z : Calling). calling_stmt z.to z.arguments z.callee) same
call_is (Get to) c e = cc
call_is (Put from) c e = cc
call_is Abort c e = cc

-- ---- walks

then_rest : (p : Sealed) (xs : List Stmt) (d : Did) → KeepsRest xs d → then_walk d (walk p xs) ≡ then_walk d (λ t. walk p t.top.rest t)
then_rest p xs (Goes t) k = ap (λ ys. walk p ys t) (sym k)
then_rest p xs (Reaches r) k = refl

-- the walk is a step, and the walk from there
pub walk_step : (p : Sealed) (xs : List Stmt) (s : State) → walk p xs s ≡ then_walk (stepped p s xs) (λ t. walk p t.top.rest t)
unfolding walk
walk_step p [] s = refl
walk_step p (x ∷ xs) s = then_rest p xs (perform p x (resumed s xs)) (perform_rest p x (resumed s xs))

-- ---- events

-- where a statement goes on, the flag makes no difference
same_told_of : (made : Bool) (a : Event) (es fs : List Event) → fs ≡ [] → a ∷ (es ++ (if made then fs else [])) ≡ a ∷ (es ++ (if true then fs else []))
same_told_of true a es fs e = refl
same_told_of false a es fs e = rw e refl

pub same_told : (p : Sealed) (made : Bool) (xs : List Stmt) (s t : State) → stepped p s xs ≡ Goes t → told_by p made xs s ≡ told_by p true xs s
unfolding told_by
same_told p made xs s t e = same_told_of made _ _ _ (ap (crossing p.program.globals xs s) e)

after_rest : (p : Sealed) (made : Bool) (xs : List Stmt) (d : Did) → KeepsRest xs d → events_after d (walk_events p made xs) ≡ events_after d (λ t. walk_events p made t.top.rest t)
after_rest p made xs (Goes t) k = ap (λ ys. walk_events p made ys t) (sym k)
after_rest p made xs (Reaches r) k = refl

-- a walk tells what its first step does, and what the walk from there does
pub walk_tells : (p : Sealed) (made : Bool) (xs : List Stmt) (s : State) → walk_events p made xs s ≡ told_by p made xs s ++ events_after (stepped p s xs) (λ t. walk_events p made t.top.rest t)
unfolding walk_events
walk_tells p made [] s = sym (append-nil _)
walk_tells p made (x ∷ xs) s = ap (λ es. told_by p made (x ∷ xs) s ++ es) (after_rest p made xs (perform p x (resumed s xs)) (perform_rest p x (resumed s xs)))

-- the events from the state that a step goes to
pub events_go : (p : Sealed) (s t : State) → step p s ≡ Goes t → (n : ℕ) → events p n s ≡ told p s ++ events p n t
unfolding events
events_go p s t e zero =
    walk_tells p false s.top.rest s ∙ rw (same_told p false s.top.rest s t e, e) refl
events_go p s t e (suc n) =
    rw (walk_tells p true s.top.rest s, walk_step p s.top.rest s, e) (append_assoc (told p s) (walk_events p true t.top.rest t) (events_on (walk p t.top.rest t) (events p n)))

-- the events from the state that a transfer leads to
pub events_move : (p : Sealed) (k : Transfer) (s t : State) → step p s ≡ Reaches (Moves k t) → (n : ℕ) → events p (suc n) s ≡ told p s ++ events p n t
unfolding events
events_move p k s t e n = rw (walk_tells p true s.top.rest s, walk_step p s.top.rest s, e, append-nil (told p s)) refl
