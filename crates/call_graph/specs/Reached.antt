-- One mark for each function: whether main reaches it, or whether its address is taken.
use Rattle.std.specs.Prelude.{◌≡◌, ◌↔◌, ℕ, Bool, true, false, List, [], ◌∷◌, ◌++◌, length, map, Some, slice_get, slice_index_or, slice_set}
use Rattle.gimple_ir.specs.declared.program.Function.{Function}
use Rattle.gimple_ir.specs.declared.program.Program.{Program}
use Rattle.gimple_core.specs.Run.{main_name}
use Rattle.gimple_core.specs.Reach.{IsReached, IsAddressed}
use Rattle.call_graph.specs.Addresses.{function_addresses, item_addresses}
use Rattle.call_graph.specs.Calls.{callees_of, names_of, number_in}

-- the functions with these marks are those whose names are in the set
pub record AreMarked (p : Program) (InSet : List ℕ → Type 0) (marks : List Bool) : Type 0 where
  pub one_each : length marks ≡ length p.functions
  pub exact : (k : ℕ) (f : Function) → slice_get p.functions k ≡ Some f → (slice_index_or marks k false ≡ true) ↔ InSet f.name

abbrev pub AreReached : Program → List Bool → Type 0
AreReached p marks = AreMarked p (IsReached p) marks

abbrev pub AreAddressed : Program → List Bool → Type 0
AreAddressed p marks = AreMarked p (IsAddressed p) marks

-- the marks with those of some numbers too
unfoldable pub marked_too : List ℕ → List Bool → List Bool
marked_too [] marks = marks
marked_too (k ∷ ks) marks = marked_too ks (slice_set marks k true)

-- what a list of lists has at a number is longer by these
abbrev pub longer_at : ℕ → List ℕ → List (List ℕ) → List (List ℕ)
longer_at a more rows = slice_set rows a (slice_index_or rows a [] ++ more)

-- what each function addresses; what items address stands with main
abbrev pub address_rows : Program → List (List ℕ)
address_rows p = longer_at (number_in (names_of p) main_name) (item_addresses p.functions p.globals) (map (function_addresses p.functions) p.functions)

-- what each function addresses or calls by name, by number
abbrev pub mentions_of : Program → ℕ → List ℕ
mentions_of p a = slice_index_or (address_rows p) a [] ++ callees_of p a

-- the functions that are marked, in their order
abbrev pub unless_dropped : Bool → Function → List Function → List Function
unless_dropped true f fs = f ∷ fs
unless_dropped false f fs = fs

unfoldable pub marked : List Bool → List Function → List Function
marked [] fs = []
marked (mark ∷ marks) [] = []
marked (mark ∷ marks) (f ∷ fs) = unless_dropped mark f (marked marks fs)
