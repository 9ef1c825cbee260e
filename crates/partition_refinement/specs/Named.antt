-- The first item of each class, by a function from classes.
use Rattle.std.specs.Prelude.{◌≡◌, ℕ, ◌<◌, ◌≤◌, List, Option, Some, None, slice_get}

-- of the classes among the first n items it gives the first item, and of no other
pub record HasFirsts (find : ℕ → Option ℕ) (classes : List ℕ) (n : ℕ) : Type 0 where
  pub met : (c k : ℕ) → find c ≡ Some k → (k < n) × (slice_get classes k ≡ Some c)
  pub least : (c k : ℕ) → find c ≡ Some k → (j : ℕ) → slice_get classes j ≡ Some c → k ≤ j
  pub other : (c : ℕ) → find c ≡ None → (j : ℕ) → j < n → slice_get classes j ≡ Some c → ⊥
