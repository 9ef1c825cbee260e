-- Finite sets as ascending lists, over any strict order.
use Rattle.std.specs.List.{insert}
use Rattle.std.specs.Prelude.{◌≡◌, ℕ, ◌≤◌, ◌⊎◌, Bool, true, false, not, ◌&&◌, ◌||◌, if◌then◌else◌, List, [], ◌∷◌, length, Option, Some, None}

-- what a strict order promises
pub record IsOrder {X : Type 0} (lt : X → X → Bool) : Type 0 where
  pub apart : (x : X) → lt x x ≡ false
  pub transitive : (x y z : X) → lt x y ≡ true → lt y z ≡ true → lt x z ≡ true
  pub total : (x y : X) → lt x y ≡ false → lt y x ≡ false → x ≡ y

abbrev pub Has : {X : Type 0} → X → List X → Type 0
Has c [] = ⊥
Has c (x ∷ xs) = (c ≡ x) ⊎ Has c xs

abbrev pub Above : {X : Type 0} → (X → X → Bool) → X → List X → Type 0
Above lt c [] = Unit {0}
Above lt c (x ∷ xs) = (lt c x ≡ true) × Above lt c xs

abbrev pub Ascending : {X : Type 0} → (X → X → Bool) → List X → Type 0
Ascending lt [] = Unit {0}
Ascending lt (x ∷ xs) = Above lt x xs × Ascending lt xs

abbrev pub Subset : {X : Type 0} → List X → List X → Type 0
Subset {X} xs ys = (c : X) → Has c xs → Has c ys

-- whether each member passes a test
abbrev pub Each : {X : Type 0} → (X → Type 0) → List X → Type 0
Each {X} P xs = (c : X) → Has c xs → P c

abbrev pub same_by : {X : Type 0} → (X → X → Bool) → X → X → Bool
same_by lt c x = not (lt c x) && not (lt x c)

abbrev pub has_by : {X : Type 0} → (X → X → Bool) → X → List X → Bool
has_by lt c [] = false
has_by lt c (x ∷ xs) = same_by lt c x || has_by lt c xs

abbrev pub subset_by : {X : Type 0} → (X → X → Bool) → List X → List X → Bool
subset_by lt [] ys = true
subset_by lt (x ∷ xs) ys = has_by lt x ys && subset_by lt xs ys

-- c put into its place, once
abbrev pub placed : {X : Type 0} → (X → X → Bool) → X → List X → List X
placed lt c [] = c ∷ []
placed lt c (x ∷ xs) = if lt c x then c ∷ (x ∷ xs) else (if lt x c then x ∷ placed lt c xs else x ∷ xs)

abbrev pub placed_some : {X : Type 0} → (X → X → Bool) → Option X → List X → List X
placed_some lt None xs = xs
placed_some lt (Some c) xs = placed lt c xs

-- the members of either
abbrev pub united : {X : Type 0} → (X → X → Bool) → List X → List X → List X
united lt [] ys = ys
united lt (x ∷ xs) ys = united lt xs (placed lt x ys)

-- the results of all members that have one, beside what is there
abbrev pub mapped : {X : Type 0} → (X → X → Bool) → (X → Option X) → List X → List X → List X
mapped lt g [] acc = acc
mapped lt g (y ∷ ys) acc = mapped lt g ys (placed_some lt (g y) acc)

-- the results of all pairs that have one, beside what is there
abbrev pub gathered : {X : Type 0} → (X → X → Bool) → (X → X → Option X) → List X → List X → List X → List X
gathered lt f [] ys acc = acc
gathered lt f (x ∷ xs) ys acc = gathered lt f xs ys (mapped lt (f x) ys acc)

pub record IsPair {X : Type 0} (f : X → X → Option X) (xs ys : List X) (r : X) : Type 0 where
  pub left : X
  pub right : X
  pub in_left : Has left xs
  pub in_right : Has right ys
  pub is : f left right ≡ Some r

-- the members that pass a test
abbrev pub kept_members : {X : Type 0} → (X → Bool) → List X → List X
kept_members p [] = []
kept_members p (x ∷ xs) = if p x then x ∷ kept_members p xs else kept_members p xs

-- what a search for the place of c answers
abbrev pub IsPlace : {X : Type 0} → (X → X → Bool) → X → List X → Option ℕ → Type 0
IsPlace lt c xs None = placed lt c xs ≡ xs
IsPlace lt c xs (Some i) = (i ≤ length xs) × (placed lt c xs ≡ insert xs i c)
