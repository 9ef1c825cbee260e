-- Relations between items, and classes of items.
use Rattle.std.specs.Prelude.{◌≡◌, ℕ, ◌==◌, true, Bool, List, [], ◌∷◌, slice_index_or}

-- a relation between items, by their numbers
abbrev pub Relation : Type 0
Relation = ℕ → ℕ → Bool

-- as many on both sides, each related to the one at its place
abbrev pub AreRelated : Relation → List ℕ → List ℕ → Type 0
AreRelated R [] [] = Unit {0}
AreRelated R [] (b ∷ bs) = ⊥
AreRelated R (a ∷ rest) [] = ⊥
AreRelated R (a ∷ rest) (b ∷ bs) = (R a b ≡ true) × AreRelated R rest bs

-- the class of an item, and for a number past the end the number itself
abbrev pub class_of : List ℕ → ℕ → ℕ
class_of classes i = slice_index_or classes i i

abbrev pub one_class : List ℕ → Relation
one_class classes i j = class_of classes i == class_of classes j

-- the row of an item
abbrev pub row_of : List (List ℕ) → ℕ → List ℕ
row_of rows i = slice_index_or rows i []
