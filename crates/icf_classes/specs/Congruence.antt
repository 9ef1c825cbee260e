-- Which functions do the same by their form, where those that they call do.
use Rattle.std.specs.Prelude.{◌≡◌, ℕ, ◌<◌, ◌≤◌, true, false, List, length, slice_get, Some}
use Rattle.gimple_ir.specs.declared.program.Function.{Function}
use Rattle.gimple_ir.specs.declared.program.Program.{Program}
use Rattle.gimple_core.specs.Run.{main_name}
use Rattle.icf_classes.specs.Placed.{placed_function, number_of, callees_of}
-- Relations of functions by their numbers in a program. In a list of classes the item of a function is the number of what
-- stands for it.
pub use Rattle.partition_refinement.specs.Relations.{Relation, AreRelated, class_of, one_class}

-- The same formal scalars, result, shapes and lengths of locals, scalars of registers, and blocks, with registers, locals
-- and labels by position; and what the one calls by name is related to what the other calls there.
pub record Alike (R : Relation) (p : Program) (f g : Function) : Type 0 where
  pub form : placed_function f ≡ placed_function g
  pub callees : AreRelated R (callees_of p f) (callees_of p g)

-- an equivalence that keeps the rule
pub record IsCongruence (p : Program) (R : Relation) : Type 0 where
  pub reflexive : (i : ℕ) → R i i ≡ true
  pub symmetric : (i j : ℕ) → R i j ≡ true → R j i ≡ true
  pub transitive : (i j k : ℕ) → R i j ≡ true → R j k ≡ true → R i k ≡ true
  pub alike : (i j : ℕ) (f g : Function) → slice_get p.functions i ≡ Some f → slice_get p.functions j ≡ Some g → R i j ≡ true → Alike R p f g

-- the two functions are in one class: some congruence relates them
pub record InOneClass (p : Program) (i j : ℕ) : Type 0 where
  pub relation : Relation
  pub congruence : IsCongruence p relation
  pub related : relation i j ≡ true

-- ---- classes as a list

-- `main` if it is in the class, else the first in file order
pub record IsRepresentative (p : Program) (R : Relation) (i r : ℕ) : Type 0 where
  pub member : R i r ≡ true
  pub main : R i (number_of p main_name) ≡ true → r ≡ number_of p main_name
  pub first : R i (number_of p main_name) ≡ false → (j : ℕ) → R i j ≡ true → r ≤ j

-- the representatives of the classes of a congruence, one for each function
pub record AreClasses (p : Program) (classes : List ℕ) : Type 0 where
  pub count : length classes ≡ length p.functions
  pub congruence : IsCongruence p (one_class classes)
  pub representatives : (i : ℕ) → i < length classes → IsRepresentative p (one_class classes) i (class_of classes i)

-- and those of the largest congruence: whatever some congruence relates is in one class
pub record AreLargestClasses (p : Program) (numbers : List ℕ) : Type 0 where
  pub classes : AreClasses p numbers
  pub largest : (i j : ℕ) → i < length numbers → j < length numbers → InOneClass p i j → one_class numbers i j ≡ true
