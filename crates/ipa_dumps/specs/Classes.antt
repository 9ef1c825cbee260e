-- The dump of classes of functions. Classes are a list with a number for each function: that of its class's representative.
use Rattle.std.specs.Prelude.{ℕ, ◌+◌, ◌<◌, List, [], ◌∷◌, ◌++◌, length, ◌==◌, if◌then◌else◌, slice_index_or, codes}
use Rattle.std.specs.List.{flat_map}
use Rattle.gimple_ir.specs.declared.program.Program.{Program}
use Rattle.ipa_dumps.specs.Dumps.{header_text, name_at, member_text}

-- each function's class has the number of a function
abbrev pub AreNumbers : List ℕ → ℕ → Type 0
AreNumbers classes n = (i : ℕ) → i < length classes → slice_index_or classes i i < n

-- the members of the class of this number in file order, of the functions from k on
unfoldable pub members_from : List ℕ → ℕ → ℕ → List ℕ
members_from [] class k = []
members_from (c ∷ cs) class k = if c == class then k ∷ members_from cs class (k + 1) else members_from cs class (k + 1)

unfoldable pub class_text : Program → ℕ → List ℕ → List ℕ
class_text p class members = codes "class " ++ (name_at p class ++ (codes ":" ++ (flat_map (member_text p) members ++ codes "\n")))

-- the line of a class of at least two, at its first member
unfoldable pub class_at : Program → ℕ → ℕ → List ℕ → List ℕ
class_at p class k [] = []
class_at p class k (first ∷ []) = []
class_at p class k (first ∷ second ∷ more) = if first == k then class_text p class (first ∷ second ∷ more) else []

-- the lines at the functions from k on, which have these classes
unfoldable pub classes_from : Program → List ℕ → ℕ → List ℕ → List ℕ
classes_from p classes k [] = []
classes_from p classes k (c ∷ cs) = class_at p c k (members_from classes c 0) ++ classes_from p classes (k + 1) cs

unfoldable pub icf_text : Program → List ℕ → List ℕ
icf_text p classes = header_text (codes "icf") ++ classes_from p classes 0 classes
