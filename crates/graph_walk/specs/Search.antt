-- A search in depth: the nodes that it met, the path to where it is, and the nodes that it left, in this order.
use Rattle.std.specs.Prelude.{◌≡◌, ℕ, ◌+◌, ◌<◌, ◌⊎◌, Bool, true, false, List, ◌++◌, length, Contains, slice_index_or}
use Rattle.graph_walk.specs.Graph.{Leads, AreMutual}
use Rattle.graph_walk.specs.Walk.{unmarked}

-- all nodes, in an order where, wherever it is parted, a node before that reaches one after is of the component of one after
pub record IsFinishing (out : ℕ → List ℕ) (n : ℕ) (finished : List ℕ) : Type 0 where
  pub nodes : (a : ℕ) → Contains finished a → a < n
  pub all : (a : ℕ) → a < n → Contains finished a
  pub later : (before after : List ℕ) → finished ≡ before ++ after → (b a : ℕ) → Contains before b → Contains after a → Leads out b a
      → (s : ℕ) × Contains after s × AreMutual out b s

-- a path leads on from each of its nodes to those behind it
abbrev pub IsPath : (ℕ → List ℕ) → List ℕ → Type 0
IsPath out path = (lower upper : List ℕ) → path ≡ lower ++ upper → (a b : ℕ) → Contains lower a → Contains upper b → Leads out a b

-- the path and the nodes that were left are marked, as are the targets of the edges that were followed; and, wherever the nodes that were left are parted,
-- one before that reaches a node after, on the path or not yet met is of the component of one after or of one on the path
pub record IsSearch (out : ℕ → List ℕ) (n : ℕ) (marks : List Bool) (followed path finished : List ℕ) : Type 0 where
  pub one_each : length marks ≡ n
  pub counts : length followed ≡ n
  pub path_marked : (a : ℕ) → Contains path a → slice_index_or marks a false ≡ true
  pub finished_marked : (a : ℕ) → Contains finished a → slice_index_or marks a false ≡ true
  pub met : (a : ℕ) → slice_index_or marks a false ≡ true → Contains path a ⊎ Contains finished a
  pub behind : (a k : ℕ) → k < slice_index_or followed a 0 → k < length (out a) → slice_index_or marks (slice_index_or (out a) k 0) false ≡ true
  pub closed : (a b : ℕ) → Contains finished a → Contains (out a) b → slice_index_or marks b false ≡ true
  pub chain : IsPath out path
  pub later : (before after : List ℕ) → finished ≡ before ++ after → (b u : ℕ) → Contains before b → Contains after u ⊎ (Contains path u ⊎ (slice_index_or marks u false ≡ false))
      → Leads out b u → (s : ℕ) × (Contains after s ⊎ Contains path s) × AreMutual out b s

-- the nodes that are still to be entered, and those still to be left
abbrev pub work : List Bool → List ℕ → ℕ
work marks path = unmarked marks + unmarked marks + length path
