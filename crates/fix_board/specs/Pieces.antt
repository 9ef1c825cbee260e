-- Pieces by their indices.
use Rattle.std.specs.Prelude.{◌≡◌, ℕ, zero, suc, ◌<◌, List, [], ◌∷◌, ◌++◌, Option, None, IfSome, All, length, slice_index_or}
use Rattle.fix_board.specs.declared.gated.Drawn.{Drawn}

-- the pieces of the numbers below n, in order
abbrev pub pieces_below : {P : Type 0} → (ℕ → P) → ℕ → List P
pieces_below f zero = []
pieces_below f (suc n) = pieces_below f n ++ (f n ∷ [])

-- each index is below the count, and its piece the defined one
abbrev pub AreDrawn : {P : Type 0} → (ℕ → P) → ℕ → List (Drawn P) → Type 0
AreDrawn f count = All (λ d. (d.index < count) × (d.piece ≡ f d.index))

-- each place is empty, or has the piece of its index
pub record ArePlaced {P : Type 0} (f : ℕ → P) (count : ℕ) (places : List (Option P)) : Type 0 where
  pub each : length places ≡ count
  pub piece_is : (i : ℕ) → i < count → IfSome (slice_index_or places i None) (λ p. p ≡ f i)
