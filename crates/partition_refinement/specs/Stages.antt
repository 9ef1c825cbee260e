-- How classes are found: from the first ones on, each time split further.
use Rattle.std.specs.Prelude.{◌≡◌, ℕ, ◌+◌, ◌<◌, ◌≤◌, true, ℤ, pos, List, [], ◌∷◌, map, length, slice_get}
use Rattle.partition_refinement.specs.Relations.{Relation, class_of, row_of}
use Rattle.partition_refinement.specs.Coarsest.{Agrees}

-- the first item that is the same as the one at a place
pub record IsFirstSame (X : Type 0) (xs : List X) (i k : ℕ) : Type 0 where
  pub same : slice_get xs k ≡ slice_get xs i
  pub least : (j : ℕ) → slice_get xs j ≡ slice_get xs i → k ≤ j

-- and that of each item
pub record AreFirstSame (X : Type 0) (xs : List X) (firsts : List ℕ) : Type 0 where
  pub count : length firsts ≡ length xs
  pub each : (i : ℕ) → i < length xs → IsFirstSame X xs i (class_of firsts i)

-- classes, each named by its first item, that refine the first ones and have split nothing that has to stay in one class
pub record IsStage (first : List ℕ) (rows : List (List ℕ)) (classes : List ℕ) : Type 0 where
  pub count : length classes ≡ length first
  pub low : (i : ℕ) → i < length first → class_of classes i ≤ i
  pub named : (i : ℕ) → i < length first → class_of classes (class_of classes i) ≡ class_of classes i
  pub finer : (i j : ℕ) → i < length first → j < length first → class_of classes i ≡ class_of classes j → class_of first i ≡ class_of first j
  pub coarse : (R : Relation) → Agrees first rows R → (i j : ℕ) → i < length first → j < length first → R i j ≡ true → class_of classes i ≡ class_of classes j

-- the class of an item, and those of what is in its row
abbrev pub key_of : List ℕ → ℕ → List ℕ → List ℤ
key_of classes number row = pos (class_of classes number) ∷ map (λ k. pos (class_of classes k)) row

-- the keys of items from a number on, with their rows in some form
unfoldable pub keys_of : {X : Type 0} → (X → List ℕ) → List ℕ → ℕ → List X → List (List ℤ)
keys_of items classes number [] = []
keys_of items classes number (x ∷ xs) = key_of classes number (items x) ∷ keys_of items classes (number + 1) xs

-- a stage after the classes, in which the items of a class have rows of the same classes before
pub record IsRound (classes : List ℕ) (rows : List (List ℕ)) (next : List ℕ) : Type 0 where
  pub stage : IsStage classes rows next
  pub agree : (i j : ℕ) → i < length classes → j < length classes → class_of next i ≡ class_of next j → map (class_of classes) (row_of rows i) ≡ map (class_of classes) (row_of rows j)
