-- Marks on the numbers below a count, and the tree that has the least marked number at hand.
use Rattle.std.specs.Prelude.{◌≡◌, ◌≢◌, ℕ, ◌+◌, ◌*◌, ◌<◌, ◌≤◌, min, Bool, true, false, List, length, slice_index, slice_index_or}

-- the number is marked, and none below it is
pub record IsFirstMark (marked : List Bool) (e : ℕ) : Type 0 where
  pub in_range : e < length marked
  pub is_marked : slice_index_or marked e false ≡ true
  pub none_before : (d : ℕ) → d < e → slice_index_or marked d false ≡ false

-- a number where it is marked, and else a number above all that can be marked
abbrev pub own_place : Bool → ℕ → ℕ
own_place true e = e
own_place false e = 4294967295

-- each place below the count, but for one, holds the lesser of the two places under it
abbrev pub IsRenewed : List ℕ → ℕ → ℕ → Type 0
IsRenewed least count but = (i : ℕ) → 0 < i → i < count → i ≢ but → slice_index least i ≡ min (slice_index least (2 * i)) (slice_index least (2 * i + 1))

-- two lists of one length are the same from a place on
pub record SameFrom (count : ℕ) (xs ys : List ℕ) : Type 0 where
  pub same_length : length ys ≡ length xs
  pub same : (j : ℕ) → count ≤ j → slice_index ys j ≡ slice_index xs j

-- the numbers' own places come last, and each other place holds the lesser of the two under it
pub record IsTree (marked : List Bool) (least : List ℕ) : Type 0 where
  pub few : length marked < 4294967296
  pub both_each : length least ≡ 2 * length marked
  pub own : (e : ℕ) → e < length marked → slice_index least (length marked + e) ≡ own_place (slice_index_or marked e false) e
  pub renewed : IsRenewed least (length marked) 0
