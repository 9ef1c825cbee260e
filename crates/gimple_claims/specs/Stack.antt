-- The calls that have not returned, read off what has happened.
use Rattle.std.specs.Prelude.{◌≡◌, ℕ, List, [], ◌∷◌, map}
use Rattle.gimple_core.specs.State.{Frame, State}
use Rattle.gimple_core.specs.Trace.{Event, Entry, At, Load, Store, Leave}

-- These are the serials of the calls that have begun and not returned, the latest first. A call that returns is the latest
-- of them: after a `Leave` of another one there is no such list.
abbrev pub AreLive : List Event → List ℕ → Type 0
AreLive [] ns = ns ≡ []
AreLive (Entry s g arguments m caller ∷ es) [] = ⊥
AreLive (Entry s g arguments m caller ∷ es) (n ∷ ns) = (n ≡ s) × AreLive es ns
AreLive (At c w ∷ es) ns = AreLive es ns
AreLive (Load c scalar object offset v ∷ es) ns = AreLive es ns
AreLive (Store c scalar object offset v ∷ es) ns = AreLive es ns
AreLive (Leave s ∷ es) ns = AreLive es (s ∷ ns)

abbrev pub serials : State → List ℕ
serials s = s.top.serial ∷ map (λ (f : Frame). f.control.serial) s.below
