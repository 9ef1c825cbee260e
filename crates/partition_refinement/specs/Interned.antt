-- Rows by their numbers.
use Rattle.std.specs.Prelude.{◌≡◌, ℕ, ◌+◌, ◌<◌, ◌≤◌, ℤ, List, [], map, length, slice_get, Some, slice_index_or}

-- the rows of these numbers
abbrev pub rows_at : List (List ℤ) → List ℕ → List (List ℤ)
rows_at distinct numbers = map (λ k. slice_index_or distinct k []) numbers

-- no row stands in the list twice
abbrev pub AreDistinct : List (List ℤ) → Type 0
AreDistinct rows = (a b : ℕ) (row : List ℤ) → slice_get rows a ≡ Some row → slice_get rows b ≡ Some row → a ≡ b

-- numbers of distinct rows, none larger than its own place
pub record AreNumbers (distinct : List (List ℤ)) (numbers : List ℕ) : Type 0 where
  pub apart : AreDistinct distinct
  pub within : (i k : ℕ) → slice_get numbers i ≡ Some k → k < length distinct
  pub low : (i k : ℕ) → slice_get numbers i ≡ Some k → k ≤ i
  pub few : length distinct ≤ length numbers

-- a row is put behind the distinct ones, unless it is one of them: the number that it has then
pub record IsNoted (old : List (List ℤ)) (row : List ℤ) (new : List (List ℤ)) (number : ℕ) : Type 0 where
  pub apart : AreDistinct old → AreDistinct new
  pub there : slice_get new number ≡ Some row
  pub keeps : (k : ℕ) (other : List ℤ) → slice_get old k ≡ Some other → slice_get new k ≡ Some other
  pub grows : length new ≤ length old + 1
