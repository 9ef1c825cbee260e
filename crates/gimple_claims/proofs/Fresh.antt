-- Each frame that begins has a serial above all those before it.
use Rattle.std.proofs.Common.{ℤ, List, [], ◌∷◌}
use Rattle.gimple_core.specs.Sealed.{Sealed}
use Rattle.gimple_core.specs.State.{State}
use Rattle.gimple_core.specs.Run.{Did, step}
use Rattle.gimple_core.specs.Trace.{Event, Entry, At, Load, Store, Leave, told_by, access, crossing, EachAfter}
use Rattle.std.specs.List.{AllByRecursion}
use Rattle.gimple_claims.specs.Laws.{IsOlder, Older, EntryIsNew, EntriesAreNew}
use Rattle.gimple_claims.proofs.Accesses.{access_all}
use Rattle.gimple_claims.proofs.Comes.{AtEach, each_append}
use Rattle.gimple_claims.proofs.OneRun.{in_run}
use Rattle.gimple_claims.proofs.Stack.{IsInner, mid}
use Rattle.gimple_claims.proofs.Steps.{Steps, acts, calls, jumps, leaves, stops, traps, step_is, each_of_after, older}

inner_new : (past : List Event) (e : Event) → IsInner e → EntryIsNew past e
inner_new past (Entry s g arguments m caller) h = absurd h
inner_new past (At c w) h = tt
inner_new past (Load c scalar object offset v) h = tt
inner_new past (Store c scalar object offset v) h = tt
inner_new past (Leave s) h = absurd h

inner_each : (past es : List Event) → AllByRecursion IsInner es → EachAfter EntryIsNew past es
inner_each past [] h = tt
inner_each past (e ∷ es) h = (inner_new past e h.0, inner_each (e ∷ past) es h.1)

pub mid_older : (p : Sealed) (past : List Event) (s : State) → Older past s → AllByRecursion (IsOlder s.next) (mid p past s)
mid_older p past s h =
    each_of_after (IsOlder s.next) (At s.top s.world ∷ past) (access p.program.globals s.top.rest s) (h.top, h.past_older)
    (access_all (IsOlder s.next) s (λ scalar f. h.top) (λ scalar f v. h.top) p.program.globals s.top.rest)

crossing_new : (p : Sealed) (past : List Event) (s : State) → AllByRecursion (IsOlder s.next) past → (d : Did) → Steps p s d → EachAfter EntryIsNew past (crossing p.program.globals s.top.rest s d)
crossing_new p past s h _ (acts x xs w e n r) = tt
crossing_new p past s h _ (calls x xs c g b bs e n f y) = (h, tt)
crossing_new p past s h _ (jumps label k b e x f) = tt
crossing_new p past s h _ (leaves v f fs e x y) = (tt, tt)
crossing_new p past s h _ (stops o z) = (tt, tt)
crossing_new p past s h _ (traps o k) = tt

new_each : (p : Sealed) (input : List ℤ) → AtEach p input EntryIsNew
unfolding told_by
new_each p input past s c = (
  tt,
  each_append EntryIsNew (At s.top s.world ∷ past) (access p.program.globals s.top.rest s) (crossing p.program.globals s.top.rest s (step p s))
      (inner_each (At s.top s.world ∷ past) (access p.program.globals s.top.rest s) (access_all IsInner s (λ scalar f. tt) (λ scalar f v. tt) p.program.globals s.top.rest))
      (crossing_new p (mid p past s) s (mid_older p past s (older p input past s c)) (step p s) (step_is p s)),
)

pub entries_are_new : EntriesAreNew
entries_are_new p input n = in_run p EntryIsNew input (λ s e. tt) (new_each p input) n
