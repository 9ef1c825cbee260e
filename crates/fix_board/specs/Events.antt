-- Runs of the board, in whatever order the workers' events come.
use Rattle.std.specs.Prelude.{◌≡◌, ℕ, ◌<◌, ◌⊎◌, Bool, List, [], ◌∷◌}
use Rattle.fix_engine.specs.Least.{Equations}
use Rattle.fix_board.specs.Board.{State, IsNext, CanPost, Posts, times_out, after_take, after_back}

pub data Event (V : Type 0) : Type 0 where
  take : ℕ → Event V
  post : ℕ → V → Event V
  back : ℕ → Event V

-- the event meets its condition, and leads from the one state to the other
abbrev pub Leads : {V : Type 0} → (V → Type 0) → (V → V → Bool) → (V → V → V) → Equations V → Event V → State V → State V → Type 0
Leads fits below joined s (take e) b c = IsNext b e × (c ≡ after_take b e)
Leads fits below joined s (post e w) b c = CanPost fits below s b e w × Posts below joined s b e w c
Leads fits below joined s (back e) b c = (e < s.edges) × (0 < times_out b e) × (c ≡ after_back b e)

-- each event meets its condition where it comes
abbrev pub Runs : {V : Type 0} → (V → Type 0) → (V → V → Bool) → (V → V → V) → Equations V → List (Event V) → State V → State V → Type 0
Runs fits below joined s [] b d = b ≡ d
Runs {V} fits below joined s (event ∷ events) b d = (c : State V) × Leads fits below joined s event b c × Runs fits below joined s events c d

-- exactly one event ends a turn: the flow of the value that was taken is posted, or the edge is given back
abbrev pub EndsTurn : {V : Type 0} → (V → Type 0) → (V → V → Bool) → (V → V → V) → Equations V → ℕ → V → State V → State V → Type 0
EndsTurn fits below joined s e from b c = Leads fits below joined s (post e from) b c ⊎ Leads fits below joined s (back e) b c
