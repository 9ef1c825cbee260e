-- How classes under plain numbers are split along what leads to the items that moved last.
use Rattle.std.specs.Prelude.{◌≡◌, ℕ, ◌<◌, ◌⊎◌, true, Bool, ◌&&◌, ◌==◌, nat_lt, ℤ, pos, List, [], ◌∷◌, map, length, slice_index_or, Contains}
use Rattle.partition_refinement.specs.Relations.{Relation, class_of, row_of}
use Rattle.partition_refinement.specs.Coarsest.{Agrees}

-- an item stands in the list of a number
abbrev pub IsIn : List (List ℕ) → ℕ → ℕ → Type 0
IsIn lists at x = Contains (row_of lists at) x

-- ---- what leads to items

-- an item is put into the list of each entry of its row
pub record AddsCaller (old : List (List ℕ)) (item : ℕ) (row : List ℕ) (new : List (List ℕ)) : Type 0 where
  pub count : length new ≡ length old
  pub keeps : (e x : ℕ) → IsIn old e x → IsIn new e x
  pub found : (e : ℕ) → Contains row e → IsIn new e item
  pub only : (e x : ℕ) → IsIn new e x → IsIn old e x ⊎ ((x ≡ item) × Contains row e)

-- for each item those of the first n whose rows have it
pub record AreCallers (rows : List (List ℕ)) (n : ℕ) (callers : List (List ℕ)) : Type 0 where
  pub found : (x e : ℕ) → x < n → Contains (row_of rows x) e → IsIn callers e x
  pub only : (e x : ℕ) → IsIn callers e x → (x < n) × Contains (row_of rows x) e

-- an item of the list leads to this one
pub record LedFrom (leads : ℕ → ℕ → Type 0) (items : List ℕ) (x : ℕ) : Type 0 where
  pub item : ℕ
  pub there : Contains items item
  pub leads_here : leads item x

-- what the items of a list lead to is added
pub record Gathers (leads : ℕ → ℕ → Type 0) (items old new : List ℕ) : Type 0 where
  pub keeps : (x : ℕ) → Contains old x → Contains new x
  pub found : (item x : ℕ) → Contains items item → leads item x → Contains new x
  pub only : (x : ℕ) → Contains new x → Contains old x ⊎ LedFrom leads items x

-- ---- classes and their members

-- a number is the class of an item
abbrev pub is_of : List ℕ → ℕ → ℕ → Bool
is_of classes class item = nat_lt item (length classes) && class_of classes item == class

-- each item stands in the list of its class
pub record AreMembers (classes : List ℕ) (members : List (List ℕ)) (n : ℕ) : Type 0 where
  pub within : (x : ℕ) → x < n → class_of classes x < length members
  pub inside : (x : ℕ) → x < n → IsIn members (class_of classes x) x

-- the items of a class
pub record AreItems (classes : List ℕ) (class : ℕ) (items : List ℕ) : Type 0 where
  pub found : (x : ℕ) → x < length classes → class_of classes x ≡ class → Contains items x
  pub only : (x : ℕ) → Contains items x → (x < length classes) × (class_of classes x ≡ class)

-- items get this class, and others keep theirs
pub record IsSet (old items : List ℕ) (class : ℕ) (new : List ℕ) : Type 0 where
  pub count : length new ≡ length old
  pub here : (x : ℕ) → Contains items x → x < length old → class_of new x ≡ class
  pub others : (x : ℕ) → (Contains items x → ⊥) → class_of new x ≡ class_of old x

-- items of one class stay in one class, wherever they go, and others keep theirs
pub record IsMoved (old items new : List ℕ) : Type 0 where
  pub count : length new ≡ length old
  pub alike : (x y : ℕ) → Contains items x → Contains items y → x < length old → y < length old → class_of old x ≡ class_of old y → class_of new x ≡ class_of new y
  pub others : (x : ℕ) → (Contains items x → ⊥) → class_of new x ≡ class_of old x

-- ---- what a round regards

-- two items are of one class, and so is what is in their rows
abbrev pub AreSame : List (List ℕ) → List ℕ → ℕ → ℕ → Type 0
AreSame rows classes i j = (class_of classes i ≡ class_of classes j) × (map (class_of classes) (row_of rows i) ≡ map (class_of classes) (row_of rows j))

-- items, and with each all that are the same
pub record IsRegarded (rows : List (List ℕ)) (classes items : List ℕ) : Type 0 where
  pub within : (x : ℕ) → Contains items x → x < length classes
  pub same : (i j : ℕ) → i < length classes → j < length classes → AreSame rows classes i j → Contains items i → Contains items j

abbrev pub AreRegarded : List (List ℕ) → List ℕ → List (List ℕ) → Type 0
AreRegarded rows classes groups = (at : ℕ) → IsRegarded rows classes (row_of groups at)

-- items in the list of their number
pub record IsGrouping (items numbers : List ℕ) (n : ℕ) (groups : List (List ℕ)) : Type 0 where
  pub found : (k : ℕ) → k < n → IsIn groups (slice_index_or numbers k 0) (slice_index_or items k 0)
  pub only : (g x : ℕ) → IsIn groups g x → (k : ℕ) × (k < n) × (slice_index_or numbers k 0 ≡ g) × (slice_index_or items k 0 ≡ x)

-- items that are the same stay in one class
pub record IsNext (rows : List (List ℕ)) (old new : List ℕ) : Type 0 where
  pub count : length new ≡ length old
  pub same : (i j : ℕ) → i < length old → j < length old → AreSame rows old i j → class_of new i ≡ class_of new j

-- what a relation that agrees relates is in one class
pub record AreKept (first : List ℕ) (rows : List (List ℕ)) (classes : List ℕ) : Type 0 where
  pub count : length classes ≡ length first
  pub coarse : (R : Relation) → Agrees first rows R → (i j : ℕ) → i < length first → j < length first → R i j ≡ true → class_of classes i ≡ class_of classes j

-- two numbers as a row
abbrev pub pair_of : ℕ → ℕ → List ℤ
pair_of a b = pos a ∷ pos b ∷ []

-- an item of the class has this caller
pub record TouchedBy (classes : List ℕ) (callers : List (List ℕ)) (class x : ℕ) : Type 0 where
  pub item : ℕ
  pub within : item < length classes
  pub of_class : class_of classes item ≡ class
  pub called : IsIn callers item x
