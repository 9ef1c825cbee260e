-- How the solvers come from the start values to the least solution.
use Rattle.std.specs.Prelude.{◌≡◌, ℕ, zero, suc, ◌+◌, ◌<◌, ◌⊎◌, ◌||◌, ◌&&◌, ◌==◌, not, nat_lt, Bool, true, false, List, Option, Some, None, length, slice_index, slice_index_or, slice_set}
use Rattle.fix_engine.specs.Least.{Equations, IsBetween, IsSatisfied, value_at}

-- the flow of a value along the edge joined into the target
abbrev pub posted : {V : Type 0} → (V → V → V) → Equations V → List V → ℕ → V → List V
posted joined s xs e from = slice_set xs (s.target e) (joined (value_at s xs (s.target e)) (s.flow e from))

-- whether the target rises by it
abbrev pub rises : {V : Type 0} → (V → V → Bool) → Equations V → List V → ℕ → V → Bool
rises below s xs e from = not (below (s.flow e from) (value_at s xs (s.target e)))

-- the flow of the value at the source joined into the target
abbrev pub raised : {V : Type 0} → (V → V → V) → Equations V → List V → ℕ → List V
raised joined s xs e = posted joined s xs e (value_at s xs (s.source e))

abbrev pub raises : {V : Type 0} → (V → V → Bool) → Equations V → List V → ℕ → Bool
raises below s xs e = rises below s xs e (value_at s xs (s.source e))

-- the edges below a number are satisfied
abbrev pub EachSatisfied : {V : Type 0} → (V → V → Bool) → Equations V → List V → ℕ → Type 0
EachSatisfied below s xs m = (e : ℕ) → e < m → IsSatisfied below s xs e

-- each node has its start value
pub record AreStarts {V : Type 0} (s : Equations V) (xs : List V) : Type 0 where
  pub one_each : length xs ≡ s.nodes
  pub starts : (n : ℕ) → n < s.nodes → value_at s xs n ≡ s.start n

-- the list has the source of each edge
pub record AreSources {V : Type 0} (s : Equations V) (sources : List ℕ) : Type 0 where
  pub source_each : length sources ≡ s.edges
  pub source_is : (e : ℕ) → e < s.edges → slice_index sources e ≡ s.source e

-- the sum of f at the numbers below n
abbrev pub sum_below : (ℕ → ℕ) → ℕ → ℕ
sum_below f zero = 0
sum_below f (suc n) = sum_below f n + f n

abbrev pub one_if : Bool → ℕ
one_if true = 1
one_if false = 0

-- how many steps are left at most: over all edges, how often its source can still rise, and how often the edge is yet to be followed
abbrev pub work_left : {V : Type 0} → (V → ℕ) → Equations V → List V → (ℕ → ℕ) → ℕ
work_left rank s xs follows = sum_below (λ e. rank (value_at s xs (s.source e)) + follows e) s.edges

-- how often the nodes can still rise
abbrev pub ranks_left : {V : Type 0} → (V → ℕ) → Equations V → List V → ℕ
ranks_left rank s xs = sum_below (λ n. rank (value_at s xs n)) s.nodes

-- how many visits are left at most: over all nodes, how often it can still rise, and one where it waits
abbrev pub visits_left : {V : Type 0} → (V → ℕ) → Equations V → List V → List Bool → ℕ
visits_left rank s xs waits = sum_below (λ n. rank (value_at s xs n) + one_if (slice_index_or waits n false)) s.nodes

-- how often an edge is yet to be followed, where nodes wait and some edges are left of a visit
abbrev pub follows_left : {V : Type 0} → Equations V → List Bool → (ℕ → Bool) → ℕ → ℕ
follows_left s waits left e = one_if (slice_index_or waits (s.source e) false) + one_if (left e)

-- no edge is left
abbrev pub none_left : ℕ → Bool
none_left e = false

-- the edges from a node are left
abbrev pub all_left : {V : Type 0} → Equations V → ℕ → ℕ → Bool
all_left s node e = s.source e == node

-- the edges from a node are left, from the next one on
abbrev pub from_next : Option ℕ → ℕ → Bool
from_next None e = false
from_next (Some next) e = not (nat_lt e next)

abbrev pub some_left : {V : Type 0} → Equations V → ℕ → Option ℕ → ℕ → Bool
some_left s node next e = (s.source e == node) && from_next next e

-- the values lie between, and an edge that is not satisfied is left or its source waits
pub record IsVisiting {V : Type 0} (fits : V → Type 0) (below : V → V → Bool) (s : Equations V) (xs : List V) (waits : List Bool) (left : ℕ → Bool) : Type 0 where
  pub between : IsBetween fits below s xs
  pub waits_each : length waits ≡ s.nodes
  pub pending : (e : ℕ) → e < s.edges → ((slice_index_or waits (s.source e) false ≡ true) ⊎ (left e ≡ true)) ⊎ IsSatisfied below s xs e

-- the edge was followed: its flow is joined into its target, which waits if it rose
pub record Follows {V : Type 0} (below : V → V → Bool) (joined : V → V → V) (s : Equations V) (e : ℕ) (xs : List V) (waits : List Bool) (ys : List V) (marked : List Bool) : Type 0 where
  pub values : ys ≡ raised joined s xs e
  pub waits_each : length marked ≡ length waits
  pub waits_is : (n : ℕ) → n < s.nodes → slice_index_or marked n false ≡ (slice_index_or waits n false || (raises below s xs e && (n == s.target e)))
