-- Finite sets of at most a number of members, or any.
use Rattle.std.specs.Prelude.{ℕ, ◌+◌, ◌-◌, ◌≤◌, Bool, true, false, List, length, nat_le, if◌then◌else◌}
use Rattle.lattice_parts.specs.Sets.{Ascending, united, subset_by}

pub data Finite (X : Type 0) : Type 0 where
  Anything : Finite X
  Members : List X → Finite X

abbrev pub FitsFinite : {X : Type 0} → (X → X → Bool) → ℕ → Finite X → Type 0
FitsFinite lt most Anything = Unit {0}
FitsFinite lt most (Members xs) = Ascending lt xs × (length xs ≤ most)

abbrev pub finite_below : {X : Type 0} → (X → X → Bool) → Finite X → Finite X → Bool
finite_below lt x Anything = true
finite_below lt Anything (Members ys) = false
finite_below lt (Members xs) (Members ys) = subset_by lt xs ys

-- a larger set is any
abbrev pub capped : {X : Type 0} → ℕ → List X → Finite X
capped most xs = if nat_le (length xs) most then Members xs else Anything

abbrev pub finite_joined : {X : Type 0} → (X → X → Bool) → ℕ → Finite X → Finite X → Finite X
finite_joined lt most Anything y = Anything
finite_joined lt most (Members xs) Anything = Anything
finite_joined lt most (Members xs) (Members ys) = capped most (united lt xs ys)

abbrev pub finite_rank : {X : Type 0} → ℕ → Finite X → ℕ
finite_rank most Anything = 0
finite_rank most (Members xs) = most + 1 - length xs
