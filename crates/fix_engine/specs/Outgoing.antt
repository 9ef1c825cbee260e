-- The edges from a node, found by links from each to the next.
use Rattle.std.specs.Prelude.{◌≡◌, ◌≢◌, ℕ, ◌+◌, ◌<◌, ◌≤◌, List, Option, Some, None, length, slice_index, slice_index_or}

-- the edge is from the node, and no other from a number on to it is
pub record IsEdgeFrom (sources : List ℕ) (node low e : ℕ) : Type 0 where
  pub from_low : low ≤ e
  pub in_range : e < length sources
  pub is_from : slice_index sources e ≡ node
  pub none_between : (d : ℕ) → low ≤ d → d < e → slice_index sources d ≢ node

-- the first edge from the node, of those from a number on
abbrev pub IsNextFrom : List ℕ → ℕ → ℕ → Option ℕ → Type 0
IsNextFrom sources node low (Some e) = IsEdgeFrom sources node low e
IsNextFrom sources node low None = (d : ℕ) → low ≤ d → d < length sources → slice_index sources d ≢ node

-- the links of the edges from a number on
pub record AreLinks (sources : List ℕ) (first next : List (Option ℕ)) (low : ℕ) : Type 0 where
  pub next_each : length next ≡ length sources
  pub below : (e : ℕ) → e < length sources → slice_index sources e < length first
  pub first_is : (n : ℕ) → n < length first → IsNextFrom sources n low (slice_index_or first n None)
  pub next_is : (e : ℕ) → low ≤ e → e < length sources → IsNextFrom sources (slice_index sources e) (e + 1) (slice_index_or next e None)
