-- The queue of the nodes that wait, by their places in an order.
use Rattle.std.specs.Prelude.{◌≡◌, ℕ, ◌<◌, Bool, true, false, List, length, slice_index, slice_index_or}

-- each node's place in the order
pub record ArePlaces (order places : List ℕ) (nodes : ℕ) : Type 0 where
  pub each : length places ≡ nodes
  pub in_order : (n : ℕ) → n < nodes → slice_index places n < nodes
  pub node_at : (n : ℕ) → n < nodes → slice_index order (slice_index places n) ≡ n

-- a place is marked where its node waits
pub record IsQueue (order places : List ℕ) (marks waits : List Bool) : Type 0 where
  pub order_each : length order ≡ length waits
  pub marks_each : length marks ≡ length waits
  pub places_are : ArePlaces order places (length waits)
  pub marked_node : (p : ℕ) → p < length waits → slice_index_or marks p false ≡ true → slice_index order p < length waits
  pub marked_place : (p : ℕ) → p < length waits → slice_index_or marks p false ≡ true → slice_index places (slice_index order p) ≡ p
  pub marked_is : (n : ℕ) → n < length waits → slice_index_or marks (slice_index places n) false ≡ slice_index_or waits n false
