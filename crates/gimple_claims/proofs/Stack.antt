-- The frames of a state are the calls that have begun and not returned.
use Rattle.std.proofs.Common.{◌≡◌, ℕ, ℤ, List, [], ◌∷◌, map, refl, sym, ap, subst, Some}
use Rattle.gimple_core.specs.Sealed.{Sealed}
use Rattle.gimple_core.specs.State.{Frame, State}
use Rattle.gimple_core.specs.Run.{step, Did, main_name, function_named}
use Rattle.gimple_core.specs.Trace.{Event, Entry, At, Load, Store, Leave, main_entry, told, told_by, access, crossing, after}
use Rattle.std.specs.List.{AllByRecursion}
use Rattle.gimple_claims.specs.Laws.{FramesAreLiveCalls}
use Rattle.gimple_claims.specs.Stack.{AreLive, serials}
use Rattle.gimple_claims.proofs.Comes.{InDid, IsKept, holds, after_append}
use Rattle.gimple_claims.proofs.Steps.{Steps, acts, calls, jumps, leaves, stops, traps, step_is, IsFirst, start_first}
use Rattle.gimple_claims.proofs.Accesses.{access_all}

-- neither begins a call nor ends one
abbrev pub IsInner : Event → Type 0
IsInner (Entry s g arguments m caller) = ⊥
IsInner (At c w) = Unit {0}
IsInner (Load c scalar object offset v) = Unit {0}
IsInner (Store c scalar object offset v) = Unit {0}
IsInner (Leave s) = ⊥

inner_one : (past : List Event) (ns : List ℕ) (e : Event) → IsInner e → AreLive past ns → AreLive (e ∷ past) ns
inner_one past ns (Entry s g arguments m caller) h l = absurd h
inner_one past ns (At c w) h l = l
inner_one past ns (Load c scalar object offset v) h l = l
inner_one past ns (Store c scalar object offset v) h l = l
inner_one past ns (Leave s) h l = absurd h

inner : (past es : List Event) (ns : List ℕ) → AllByRecursion IsInner es → AreLive past ns → AreLive (after past es) ns
inner past [] ns h l = l
inner past (e ∷ es) ns h l = inner (e ∷ past) es ns h.1 (inner_one past ns e h.0 l)

-- the events of a step before its transfer
abbrev pub mid : Sealed → List Event → State → List Event
mid p past s = after (At s.top s.world ∷ past) (access p.program.globals s.top.rest s)

mid_live : (p : Sealed) (past : List Event) (ns : List ℕ) (s : State) → AreLive past ns → AreLive (mid p past s) ns
mid_live p past ns s l = inner (At s.top s.world ∷ past) (access p.program.globals s.top.rest s) ns (access_all IsInner s (λ scalar f. tt) (λ scalar f v. tt) p.program.globals s.top.rest) l

pub told_mid : (p : Sealed) (past : List Event) (s : State) → after past (told p s) ≡ after (mid p past s) (crossing p.program.globals s.top.rest s (step p s))
unfolding told_by
told_mid p past s = after_append (At s.top s.world ∷ past) (access p.program.globals s.top.rest s) (crossing p.program.globals s.top.rest s (step p s))

abbrev Live : List Event → State → Type 0
Live past s = AreLive past (serials s)

live_did : (p : Sealed) (past now : List Event) (s : State) → Live now s → (d : Did) → Steps p s d → InDid (Live (after now (crossing p.program.globals s.top.rest s d))) d
live_did p past now s h _ (acts x xs w e n r) = h
live_did p past now s h _ (calls x xs c g b bs e n f y) = (refl, h)
live_did p past now s h _ (jumps label k b e x f) = h
live_did p past now s h _ (leaves v f fs e x y) = subst (λ rs. AreLive now (s.top.serial ∷ map (λ (r : Frame). r.control.serial) rs)) y h
live_did p past now s h _ (stops o z) = tt
live_did p past now s h _ (traps o k) = tt

live_first : (p : Sealed) (s : State) → IsFirst (Some s) → Live (main_entry p s ∷ []) s
live_first p s h = (refl, ap (map (λ (r : Frame). r.control.serial)) h.1)

live_kept : (p : Sealed) (input : List ℤ) → IsKept p input Live
live_kept p input = record {
  begin = λ s e. live_first p s (subst IsFirst e (start_first p input (function_named main_name p.program.functions)));
  keep = λ past s h. subst (λ es. InDid (Live es) (step p s)) (sym (told_mid p past s)) (live_did p past (mid p past s) s (mid_live p past (serials s) s h) (step p s) (step_is p s));
}

pub live_serials : FramesAreLiveCalls
live_serials p input past s c = holds p input Live (live_kept p input) past s c
