-- A walk through a graph from one node, past walls: the nodes that it met, and of how many of them the edges are followed.
use Rattle.std.specs.Prelude.{◌≡◌, ◌↔◌, ℕ, suc, ◌<◌, ◌≤◌, ◌⊎◌, Bool, true, false, List, [], ◌∷◌, ◌++◌, length, map, Contains, slice_index_or, slice_set, Vec}
use Rattle.std.specs.declared.alloc.Global.{Global}
use Rattle.graph_walk.specs.Graph.{LeadsPast}

-- the lists of a list of vectors
abbrev pub listed : List (Vec ℕ Global) → List (List ℕ)
listed rows = map (λ v. v.items) rows

-- the targets of a node's edges
abbrev pub row_at : List (Vec ℕ Global) → ℕ → List ℕ
row_at rows a = slice_index_or (listed rows) a []

pub record Walk : Type 0 where
  pub marks : List Bool
  pub nodes : List ℕ

abbrev pub unless_met : Bool → ℕ → Walk → Walk
unless_met true m w = w
unless_met false m w = record { marks = slice_set w.marks m true; nodes = w.nodes ++ m ∷ [] }

-- a walk after it met the nodes of a row
abbrev pub met : List ℕ → Walk → Walk
met [] w = w
met (m ∷ ms) w = met ms (unless_met (slice_index_or w.marks m false) m w)

abbrev pub unmarked : List Bool → ℕ
unmarked [] = 0
unmarked (true ∷ xs) = unmarked xs
unmarked (false ∷ xs) = suc (unmarked xs)

-- marked are the walls and what was met, which is reached past the walls; the edges of the first ones are followed
pub record IsWalk (out : ℕ → List ℕ) (walls : List Bool) (root followed : ℕ) (w : Walk) : Type 0 where
  pub one_each : length w.marks ≡ length walls
  pub root_met : slice_index_or w.marks root false ≡ true
  pub followed_met : followed ≤ length w.nodes
  pub marked : (a : ℕ) → (slice_index_or w.marks a false ≡ true) ↔ ((slice_index_or walls a false ≡ true) ⊎ Contains w.nodes a)
  pub sound : (a : ℕ) → Contains w.nodes a → LeadsPast out walls root a
  pub closed : (k a b : ℕ) → k < followed → slice_index_or w.nodes k a ≡ a → Contains (out a) b → slice_index_or w.marks b false ≡ true

-- a walk from the root met the nodes that it reaches past the walls, and marked them beside the walls
pub record HasWalked (out : ℕ → List ℕ) (root : ℕ) (walls marks : List Bool) (nodes : List ℕ) : Type 0 where
  pub one_each : length marks ≡ length walls
  pub exact : (a : ℕ) → Contains nodes a ↔ LeadsPast out walls root a
  pub marked : (a : ℕ) → (slice_index_or marks a false ≡ true) ↔ ((slice_index_or walls a false ≡ true) ⊎ Contains nodes a)
