-- The states of a run, with what happened before each.
use Rattle.std.specs.Prelude.{◌≡◌, ℤ, List, [], ◌∷◌, Some}
use Rattle.gimple_core.specs.Sealed.{Sealed}
use Rattle.gimple_core.specs.State.{State}
use Rattle.gimple_core.specs.Run.{Moves, Goes, Reaches, Transfer, step, start}
use Rattle.gimple_core.specs.Trace.{Event, told, main_entry, after}

-- the state comes up in the run on this input, after these events
pub data Comes (p : Sealed) (input : List ℤ) : List Event → State → Type 0 where
  begins : (s : State) → start p input ≡ Some s → Comes p input (main_entry p s ∷ []) s
  goes : (past : List Event) (s t : State) → Comes p input past s → step p s ≡ Goes t → Comes p input (after past (told p s)) t
  moves : (past : List Event) (k : Transfer) (s t : State) → Comes p input past s → step p s ≡ Reaches (Moves k t) → Comes p input (after past (told p s)) t

-- some steps lead from the first state to the second, or none
pub data Leads (p : Sealed) (s : State) : State → Type 0 where
  none : Leads p s s
  goes_on : (t u : State) → Leads p s t → step p t ≡ Goes u → Leads p s u
  moves_on : (k : Transfer) (t u : State) → Leads p s t → step p t ≡ Reaches (Moves k u) → Leads p s u
