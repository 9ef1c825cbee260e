-- Directed graphs on numbers, each given by what the edges of a node lead to: the strong components in their order.
use Rattle.std.specs.Prelude.{◌≡◌, ◌↔◌, ℕ, ◌<◌, ◌≤◌, ◌⊎◌, List, [], ◌∷◌, ◌++◌, Contains}
pub use Rattle.graph_walk.specs.Graph.{Leads, start, along, AreMarks, AreMutual}

-- each edge from the component of a leads to a node that stands, or stays in the component
abbrev pub IsReady : (ℕ → List ℕ) → List ℕ → ℕ → Type 0
IsReady out standing a = (x y : ℕ) → AreMutual out a x → Contains (out x) y → Contains standing y ⊎ AreMutual out a y

-- the least node that does not stand and whose component is ready
pub record IsNext (out : ℕ → List ℕ) (n : ℕ) (standing : List ℕ) (a : ℕ) : Type 0 where
  pub is_node : a < n
  pub is_new : Contains standing a → ⊥
  pub ready : IsReady out standing a
  pub least : (b : ℕ) → b < n → (Contains standing b → ⊥) → IsReady out standing b → a ≤ b

abbrev pub IsAscending : List ℕ → Type 0
IsAscending [] = Unit {0}
IsAscending (x ∷ xs) = ((y : ℕ) → Contains xs y → x < y) × IsAscending xs

-- the nodes of the component of a, ascending
pub record IsComponent (out : ℕ → List ℕ) (n a : ℕ) (members : List ℕ) : Type 0 where
  pub ascends : IsAscending members
  pub exact : (m : ℕ) → Contains members m ↔ ((m < n) × AreMutual out a m)

-- the components that follow those that stand
abbrev pub IsOrderAfter : (ℕ → List ℕ) → ℕ → List ℕ → List (List ℕ) → Type 0
IsOrderAfter out n standing [] = (a : ℕ) → a < n → Contains standing a
IsOrderAfter out n standing (c ∷ cs) = ((a : ℕ) × IsNext out n standing a × IsComponent out n a c) × IsOrderAfter out n (standing ++ c) cs

-- all components: each next one is that of the least node among those whose other targets stand already
abbrev pub IsOrder : (ℕ → List ℕ) → ℕ → List (List ℕ) → Type 0
IsOrder out n components = IsOrderAfter out n [] components

-- a graph has one order of its components at most
abbrev pub OrderIsOne : Type 0
OrderIsOne = (out : ℕ → List ℕ) (n : ℕ) (xs ys : List (List ℕ)) → IsOrder out n xs → IsOrder out n ys → xs ≡ ys
