-- Each entry of a run of a program without a type fault meets top facts.
use Rattle.std.proofs.Common.{◌≡◌, ℕ, suc, ◌+◌, true, List, [], ◌∷◌, map, sym, ◌∙◌, ap, subst, arith, Some, slice_get, unwrap_or}
use Rattle.gimple_ir.specs.declared.value.Value.{Value}
use Rattle.gimple_ir.specs.declared.declarations.Register.{Register}
use Rattle.gimple_ir.specs.declared.program.Function.{Function}
use Rattle.gimple_core.specs.State.{is_of, zero_of}
use Rattle.gimple_core.specs.Trace.{Event, Entry, At, Load, Store, Leave, EachAfter, Trace}
use Rattle.gimple_claims.specs.Bodies.{FactsClaim}
use Rattle.gimple_claims.specs.Typed.{registers_typed, EventTyped}
use Rattle.gimple_claims.proofs.TypedEvents.{events_are_typed}
use Rattle.fix_engine.specs.Bools.{and_left, and_right}
use Rattle.value_domain.specs.AbsOperators.{top_of}
use Rattle.value_domain.specs.Holding.{Holds}
use Rattle.value_domain.proofs.TopLaws.{top_holds}
use Rattle.body_values.specs.Claims.{FormalsMeet, given_of}
use Rattle.body_values.specs.TopFacts.{top_value, top_facts}
use Rattle.body_values.specs.TopRuns.{TopFactsHold, TopValuesHold}
use Rattle.body_values.proofs.Always.{values_hold_always}

-- values of the scalars of formals, from a position on
arguments_meet : (rs : List Register) (vs all : List Value) (k : ℕ) → registers_typed rs vs ≡ true → ((i : ℕ) → slice_get all (k + i) ≡ slice_get vs i) → FormalsMeet rs (map top_value rs) all k
arguments_meet [] vs all k t h = tt
arguments_meet (r ∷ rs) [] all k t h = cc
arguments_meet (r ∷ rs) (v ∷ vs) all k t h =
    let here : slice_get all k ≡ Some v = ap (slice_get all) (omega arith) ∙ h 0 in
    let value : unwrap_or (slice_get all k) (zero_of r.scalar) ≡ v = ap (λ o. unwrap_or o (zero_of r.scalar)) here in (
      subst (λ x. Holds x (top_of r.scalar)) (sym value) (top_holds r.scalar v (and_left (is_of r.scalar v) (registers_typed rs vs) t)),
      arguments_meet rs vs all (k + 1) (and_right (is_of r.scalar v) (registers_typed rs vs) t) (λ i. ap (slice_get all) (omega arith) ∙ h (suc i)),
    )

from_first : (vs : List Value) (i : ℕ) → slice_get vs (0 + i) ≡ slice_get vs i
from_first vs i = ap (slice_get vs) (omega arith)

entry_meets : (n : ℕ) (f g : Function) (arguments : List Value) → registers_typed g.params arguments ≡ true → g ≡ f → FormalsMeet f.params (map top_value f.params) arguments 0
entry_meets n f g arguments t same =
    arguments_meet f.params arguments arguments 0 (subst (λ (x : Function). registers_typed x.params arguments ≡ true) same t) (from_first arguments)

event_meets : (n : ℕ) (f : Function) (past : List Event) (e : Event) → EventTyped e → FactsClaim f (given_of n f (top_facts f)) past e
event_meets n f past (Entry serial g arguments m caller) t = entry_meets n f g arguments t.0
event_meets n f past (At c w) t = tt
event_meets n f past (Load c scalar object offset v) t = λ same. tt
event_meets n f past (Store c scalar object offset v) t = tt
event_meets n f past (Leave serial) t = tt

events_meet : (n : ℕ) (f : Function) (past es : List Event) → EachAfter (λ before e. EventTyped e) past es → EachAfter (FactsClaim f (given_of n f (top_facts f))) past es
events_meet n f past [] h = tt
events_meet n f past (e ∷ es) h = (event_meets n f past e h.0, events_meet n f (e ∷ past) es h.1)

pub top_facts_hold : TopFactsHold
top_facts_hold p n f accepted input numbers turns = events_meet n f [] (Trace p input turns) (events_are_typed p accepted input numbers turns)

pub top_values_hold : TopValuesHold
top_values_hold p n f most ts xs h = values_hold_always p n f (top_facts f) most ts xs h (top_facts_hold p n f h.accepted)
