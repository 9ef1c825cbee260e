-- The order in which objects and their slots come to be.
use Rattle.std.specs.Prelude.{◌≡◌, ℕ, ◌+◌, ◌-◌, ◌<◌, ◌≤◌, ◌==◌, nat_lt, Bool, true, if◌then◌else◌, List, length, slice_index_or}
use Rattle.gimple_ir.specs.declared.value.Object.{Object}
use Rattle.gimple_ir.specs.declared.value.Object.TheVariants.{Global, Local}

-- globals come before locals, and the locals of a frame before those of a later one
abbrev pub rank : Object → ℕ
rank (Global k) = 0
rank (Local s k) = s + 1

-- the number among the objects of one rank
abbrev pub place : Object → ℕ
place (Global k) = k
place (Local s k) = k

-- whether an object, with an offset in it, comes before another one
unfoldable pub precedes : Object → ℕ → Object → ℕ → Bool
precedes a i b j =
    if rank a == rank b then (if place a == place b then nat_lt i j else nat_lt (place a) (place b)) else nat_lt (rank a) (rank b)

-- the same of what belongs to objects, at an offset in each
abbrev pub comes_before : {X : Type 0} → (X → Object) → (X → ℕ) → X → X → Bool
comes_before object offset x y = precedes (object x) (offset x) (object y) (offset y)

-- each item comes before each later one
abbrev pub IsOrdered : {X : Type 0} → (X → X → Bool) → List X → Type 0
IsOrdered {X} before xs = (i j : ℕ) (d : X) → i < j → j < length xs → before (slice_index_or xs i d) (slice_index_or xs j d) ≡ true

-- an item comes after all of a list
abbrev pub Follows : {X : Type 0} → (X → X → Bool) → List X → X → Type 0
Follows {X} before xs y = (d : X) → 0 < length xs → before (slice_index_or xs (length xs - 1) d) y ≡ true

-- the first objects are of frames before this one, or globals, and the others are not
pub record IsSplit {X : Type 0} (object : X → Object) (serial : ℕ) (xs : List X) (k : ℕ) : Type 0 where
  pub bound : k ≤ length xs
  pub front : (i : ℕ) (d : X) → i < k → rank (object (slice_index_or xs i d)) < serial + 1
  pub rest : (i : ℕ) (d : X) → k ≤ i → i < length xs → serial + 1 ≤ rank (object (slice_index_or xs i d))

-- the last object is of no later frame than this one
abbrev pub IsLatest : {X : Type 0} → (X → Object) → ℕ → List X → Type 0
IsLatest {X} object serial xs = (d : X) → 0 < length xs → rank (object (slice_index_or xs (length xs - 1) d)) ≤ serial + 1
