-- What a lattice of finite height promises, among the values that fit one kind. A kind is a list of whole numbers.
use Rattle.std.specs.Prelude.{◌≡◌, ◌≢◌, ℕ, ◌<◌, ◌≤◌, Bool, true, List, [], ◌∷◌}

-- the two values fit one kind
abbrev pub AreAlike : {V : Type 0} → (List ℕ → V → Type 0) → V → V → Type 0
AreAlike fits x y = (kind : List ℕ) × fits kind x × fits kind y

-- `below` is a partial order and `joined` the least upper bound, among the values that fit one kind;
-- each rise takes from the rank, which begins at the height or below
pub record LatticeLaws {V : Type 0} (fits : List ℕ → V → Type 0) (height : List ℕ → ℕ) (rank : List ℕ → V → ℕ) (below : V → V → Bool) (joined : V → V → V) : Type 0 where
  pub reflexive : (k : List ℕ) (x : V) → fits k x → below x x ≡ true
  pub antisymmetric : (k : List ℕ) (x y : V) → fits k x → fits k y → below x y ≡ true → below y x ≡ true → x ≡ y
  pub transitive : (k : List ℕ) (x y z : V) → fits k x → fits k y → fits k z → below x y ≡ true → below y z ≡ true → below x z ≡ true
  pub join_fits : (k : List ℕ) (x y : V) → fits k x → fits k y → fits k (joined x y)
  pub above_left : (k : List ℕ) (x y : V) → fits k x → fits k y → below x (joined x y) ≡ true
  pub above_right : (k : List ℕ) (x y : V) → fits k x → fits k y → below y (joined x y) ≡ true
  pub least_above : (k : List ℕ) (x y z : V) → fits k x → fits k y → fits k z → below x z ≡ true → below y z ≡ true → below (joined x y) z ≡ true
  pub rank_bounded : (k : List ℕ) (x : V) → fits k x → rank k x ≤ height k
  pub rank_falls : (k : List ℕ) (x y : V) → fits k x → fits k y → below x y ≡ true → x ≢ y → rank k y < rank k x

-- values of one kind, the first and then the rest in order, each below the next and another than it
abbrev pub IsRising : {V : Type 0} → (V → Type 0) → (V → V → Bool) → V → List V → Type 0
IsRising fits below x [] = fits x
IsRising fits below x (y ∷ ys) = fits x × (below x y ≡ true) × (x ≢ y) × IsRising fits below y ys
