-- The board that workers share: a value per node, the dirty edges, and how often each edge is out.
use Rattle.std.specs.Prelude.{◌≡◌, ℕ, ◌+◌, ◌-◌, ◌<◌, ◌⊎◌, ◌==◌, ◌||◌, ◌&&◌, not, Bool, true, false, Option, Some, None, IfSome, List, length, slice_index, slice_index_or, slice_set}
use Rattle.fix_engine.specs.Least.{Equations, FlowLaws, IsBetween, IsLeast, IsSatisfied, value_at}
use Rattle.fix_engine.specs.Solving.{AreStarts, AreSources, rises, posted, one_if, from_next}
use Rattle.fix_board.specs.Edges.{IsNextReady}

pub record State (V : Type 0) : Type 0 where
  pub values : List V
  pub dirty : List Bool
  pub out : List ℕ

abbrev pub is_dirty : {V : Type 0} → State V → ℕ → Bool
is_dirty b e = slice_index_or b.dirty e false

abbrev pub times_out : {V : Type 0} → State V → ℕ → ℕ
times_out b e = slice_index b.out e

-- one where the edge is dirty
abbrev pub dirt : {V : Type 0} → State V → ℕ → ℕ
dirt b e = one_if (is_dirty b e)

-- an edge that is not satisfied is dirty or out
abbrev pub IsPending : {V : Type 0} → (V → V → Bool) → Equations V → State V → ℕ → Type 0
IsPending below s b e = (is_dirty b e ≡ true) ⊎ ((0 < times_out b e) ⊎ IsSatisfied below s b.values e)

-- what holds of the board between any two events
pub record IsKept {V : Type 0} (fits : V → Type 0) (below : V → V → Bool) (s : Equations V) (b : State V) : Type 0 where
  pub between : IsBetween fits below s b.values
  pub dirty_each : length b.dirty ≡ s.edges
  pub out_each : length b.out ≡ s.edges
  pub pending : (e : ℕ) → e < s.edges → IsPending below s b e

-- the start values, every edge dirty and none out
pub record IsStart {V : Type 0} (s : Equations V) (b : State V) : Type 0 where
  pub values : AreStarts s b.values
  pub dirty_each : length b.dirty ≡ s.edges
  pub out_each : length b.out ≡ s.edges
  pub all_dirty : (e : ℕ) → e < s.edges → is_dirty b e ≡ true
  pub none_out : (e : ℕ) → e < s.edges → times_out b e ≡ 0

-- the least edge that may be taken
abbrev pub IsNext : {V : Type 0} → State V → ℕ → Type 0
IsNext b e = IsNextReady b.dirty b.out e

abbrev pub after_take : {V : Type 0} → State V → ℕ → State V
after_take b e = record { values = b.values; dirty = slice_set b.dirty e false; out = slice_set b.out e (times_out b e + 1) }

abbrev pub after_back : {V : Type 0} → State V → ℕ → State V
after_back b e = record { values = b.values; dirty = slice_set b.dirty e true; out = slice_set b.out e (times_out b e - 1) }

-- the flow of this value along the edge may be posted
pub record CanPost {V : Type 0} (fits : V → Type 0) (below : V → V → Bool) (s : Equations V) (b : State V) (e : ℕ) (from : V) : Type 0 where
  pub is_edge : e < s.edges
  pub out : 0 < times_out b e
  pub fit : fits from
  pub lower : below from (value_at s b.values (s.source e)) ≡ true
  pub covered : (from ≡ value_at s b.values (s.source e)) ⊎ ((is_dirty b e ≡ true) ⊎ (1 < times_out b e))

-- the edges from this node are dirty too, if it rose
pub record MarksFrom (sources : List ℕ) (node : ℕ) (rose : Bool) (old new : List Bool) : Type 0 where
  pub same_length : length new ≡ length old
  pub each : (d : ℕ) → d < length old → slice_index_or new d false ≡ (slice_index_or old d false || (rose && (slice_index sources d == node)))

-- so far, where the next edge from the node is known
pub record IsMarking (sources : List ℕ) (node : ℕ) (old new : List Bool) (next : Option ℕ) : Type 0 where
  pub same_length : length new ≡ length old
  pub is_edge : IfSome next (λ e. e < length old)
  pub is_from : IfSome next (λ e. slice_index sources e ≡ node)
  pub marked : (d : ℕ) → d < length old → slice_index_or new d false ≡ (slice_index_or old d false || ((slice_index sources d == node) && not (from_next next d)))

abbrev pub marks_left : ℕ → Option ℕ → ℕ
marks_left count None = 0
marks_left count (Some e) = count - e

-- the flow of this value was joined into the target, and the edge is out once less
pub record Posts {V : Type 0} (below : V → V → Bool) (joined : V → V → V) (s : Equations V) (old : State V) (e : ℕ) (from : V) (new : State V) : Type 0 where
  pub values : new.values ≡ posted joined s old.values e from
  pub dirty_each : length new.dirty ≡ length old.dirty
  pub dirty : (d : ℕ) → d < s.edges → is_dirty new d ≡ (is_dirty old d || (rises below s old.values e from && (s.source d == s.target e)))
  pub out : new.out ≡ slice_set old.out e (times_out old e - 1)

-- the list has the target of each edge
pub record AreTargets {V : Type 0} (s : Equations V) (targets : List ℕ) : Type 0 where
  pub target_each : length targets ≡ s.edges
  pub target_is : (e : ℕ) → e < s.edges → slice_index targets e ≡ s.target e

-- the board of one lawful system
pub record IsBoard {V : Type 0} (fits : V → Type 0) (below : V → V → Bool) (s : Equations V) (b : State V) (sources targets : List ℕ) : Type 0 where
  pub laws : FlowLaws fits below s
  pub sources_are : AreSources s sources
  pub targets_are : AreTargets s targets
  pub kept : IsKept fits below s b

-- no edge below the number is out
abbrev pub AreHome : {V : Type 0} → State V → ℕ → Type 0
AreHome b m = (e : ℕ) → e < m → times_out b e ≡ 0

-- nothing is dirty, and the values are the least solution
pub record IsDone {V : Type 0} (fits : V → Type 0) (below : V → V → Bool) (s : Equations V) (b : State V) : Type 0 where
  pub clean : (e : ℕ) → e < s.edges → is_dirty b e ≡ false
  pub least : IsLeast fits below s b.values
