-- Items of lists by their places.
use Rattle.std.proofs.Common.{◌≡◌, ℕ, zero, suc, ◌⊎◌, inl, inr, List, [], ◌∷◌, ◌++◌, length, Some, slice_get, refl, ap}

-- an item of a list with one more is one of before, or the new one behind them
pub at_push : {X : Type 0} (xs : List X) (y : X) (a : ℕ) (r : X) → slice_get (xs ++ y ∷ []) a ≡ Some r → (slice_get xs a ≡ Some r) ⊎ ((a ≡ length xs) × (y ≡ r))
at_push [] y zero r e = inr (refl, cc)
at_push [] y (suc a) r e = cc
at_push (x ∷ xs) y zero r e = inl e
at_push (x ∷ xs) y (suc a) r e = elim (at_push xs y a r e) [ inl h ↦ inl h | inr (p, q) ↦ inr (ap suc p, q) ]

-- and each of before stays at its place
pub before_push : {X : Type 0} (xs : List X) (y : X) (a : ℕ) (r : X) → slice_get xs a ≡ Some r → slice_get (xs ++ y ∷ []) a ≡ Some r
before_push [] y a r e = cc
before_push (x ∷ xs) y zero r e = e
before_push (x ∷ xs) y (suc a) r e = before_push xs y a r e

pub push_there : {X : Type 0} (xs : List X) (y : X) → slice_get (xs ++ y ∷ []) (length xs) ≡ Some y
push_there [] y = refl
push_there (x ∷ xs) y = push_there xs y
