-- The coarsest classes that refine given ones and agree row by row.
use Rattle.std.specs.Prelude.{◌≡◌, ℕ, ◌<◌, ◌≤◌, true, List, [], ◌∷◌, map, length}
use Rattle.partition_refinement.specs.Relations.{Relation, AreRelated, class_of, row_of}

-- what it relates has one first class, and rows that it relates
pub record Agrees (first : List ℕ) (rows : List (List ℕ)) (R : Relation) : Type 0 where
  pub within : (i j : ℕ) → i < length first → j < length first → R i j ≡ true → class_of first i ≡ class_of first j
  pub alike : (i j : ℕ) → i < length first → j < length first → R i j ≡ true → AreRelated R (row_of rows i) (row_of rows j)

-- each entry of a row is an item
abbrev pub Below : ℕ → List ℕ → Type 0
Below n [] = Unit {0}
Below n (x ∷ xs) = (x < n) × Below n xs

-- classes, each named by its first item, whose items have one first class and rows of the same classes; and what some
-- relation of this kind relates is in one class
pub record IsCoarsest (first : List ℕ) (rows : List (List ℕ)) (classes : List ℕ) : Type 0 where
  pub count : length classes ≡ length first
  pub finer : (i j : ℕ) → i < length first → j < length first → class_of classes i ≡ class_of classes j → class_of first i ≡ class_of first j
  pub stable : (i j : ℕ) → i < length first → j < length first → class_of classes i ≡ class_of classes j → map (class_of classes) (row_of rows i) ≡ map (class_of classes) (row_of rows j)
  pub coarsest : (R : Relation) → Agrees first rows R → (i j : ℕ) → i < length first → j < length first → R i j ≡ true → class_of classes i ≡ class_of classes j
  pub low : (i : ℕ) → i < length first → class_of classes i ≤ i
  pub named : (i : ℕ) → i < length first → class_of classes (class_of classes i) ≡ class_of classes i
