-- The components of the last nodes of a finishing order.
use Rattle.std.specs.Prelude.{◌≡◌, ◌↔◌, ℕ, ◌≤◌, Bool, true, false, List, length, Contains, slice_index_or}
use Rattle.graph_walk.specs.Graph.{AreMutual}

-- marked are the components of these nodes, and each marked node has the number of its component's first node
pub record AreFirstsOf (out : ℕ → List ℕ) (n : ℕ) (nodes : List ℕ) (marks : List Bool) (firsts : List ℕ) : Type 0 where
  pub one_mark : length marks ≡ n
  pub one_each : length firsts ≡ n
  pub marked : (a : ℕ) → (slice_index_or marks a false ≡ true) ↔ ((s : ℕ) × Contains nodes s × AreMutual out a s)
  pub of_component : (a : ℕ) → slice_index_or marks a false ≡ true → AreMutual out a (slice_index_or firsts a 0)
  pub least : (a b : ℕ) → slice_index_or marks a false ≡ true → AreMutual out a b → slice_index_or firsts a 0 ≤ b

-- each of these nodes has the least of them for its number, and the others what they had
pub record ArePlaced (nodes old new : List ℕ) : Type 0 where
  pub one_each : length new ≡ length old
  pub of_nodes : (a : ℕ) → Contains nodes a → Contains nodes (slice_index_or new a 0)
  pub least : (a b : ℕ) → Contains nodes a → Contains nodes b → slice_index_or new a 0 ≤ b
  pub others : (a : ℕ) → (Contains nodes a → ⊥) → slice_index_or new a 0 ≡ slice_index_or old a 0
