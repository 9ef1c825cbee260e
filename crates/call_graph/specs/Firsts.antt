-- The first node of each node's component, the members of components, and the edges between components.
use Rattle.std.specs.Prelude.{◌≡◌, ◌≢◌, ◌↔◌, ℕ, ◌<◌, ◌==◌, Bool, true, false, List, [], ◌∷◌, ◌++◌, length, Contains, slice_index_or}
use Rattle.gimple_ir.specs.declared.point.Edge.{Edge}
use Rattle.call_graph.specs.Graph.{IsAscending}
pub use Rattle.graph_walk.specs.Graph.{AreFirsts}

-- the node is the first of its component
abbrev pub IsFirst : List ℕ → ℕ → Type 0
IsFirst firsts r = (r < length firsts) × (slice_index_or firsts r 0 ≡ r)

abbrev pub pushed_if : Bool → ℕ → List ℕ → List ℕ
pushed_if true m xs = xs ++ m ∷ []
pushed_if false m xs = xs

-- the numbers below m that pass a test, ascending
pub record IsPart (test : ℕ → Bool) (m : ℕ) (xs : List ℕ) : Type 0 where
  pub ascends : IsAscending xs
  pub exact : (k : ℕ) → Contains xs k ↔ ((k < m) × (test k ≡ true))

-- the edges, each turned around
unfoldable pub turned : List Edge → List Edge
turned [] = []
turned (e ∷ es) = record { caller = e.callee; point = e.point; callee = e.caller } ∷ turned es

-- an edge, from the first node of its source's component to that of its target's
abbrev pub between_firsts : List ℕ → Edge → Edge
between_firsts firsts e = record { caller = slice_index_or firsts e.caller 0; point = e.point; callee = slice_index_or firsts e.callee 0 }

abbrev pub unless_inside : Bool → Edge → List Edge → List Edge
unless_inside true e es = es
unless_inside false e es = e ∷ es

-- the edges that leave a component
unfoldable pub edges_between : List ℕ → List Edge → List Edge
edges_between firsts [] = []
edges_between firsts (e ∷ es) = unless_inside (slice_index_or firsts e.caller 0 == slice_index_or firsts e.callee 0) (between_firsts firsts e) (edges_between firsts es)

-- the edges between components are those of the nodes that leave a component
pub record AreBetween (out : ℕ → List ℕ) (firsts : List ℕ) (between : ℕ → List ℕ) : Type 0 where
  pub complete : (x y : ℕ) → Contains (out x) y → slice_index_or firsts x 0 ≢ slice_index_or firsts y 0 → Contains (between (slice_index_or firsts x 0)) (slice_index_or firsts y 0)
  pub sound : (r c : ℕ) → Contains (between r) c → (x : ℕ) × (y : ℕ) × Contains (out x) y × (slice_index_or firsts x 0 ≡ r) × (slice_index_or firsts y 0 ≡ c) × (r ≢ c)
