-- Which accesses a tree holds.
use Rattle.std.specs.Prelude.{◌==◌, ℤ, Bool, true, false, ◌&&◌, List, map, Option, Some, None}
use Rattle.std.specs.List.{list_any}
use Rattle.std.specs.Ordering.{int_eq}
use Rattle.gimple_ir.specs.declared.program.Function.{Function}
use Rattle.gimple_ir.specs.declared.program.Program.{Program}
use Rattle.gimple_core.specs.Memory.{same_scalar}
use Rattle.modref_trees.specs.declared.trees.TreeBase.{TreeBase}
use Rattle.modref_trees.specs.declared.trees.TreeBase.TheVariants.{Formal, Global, Any}
use Rattle.modref_trees.specs.declared.trees.Access.{Access}
use Rattle.modref_trees.specs.declared.trees.Tree.{Tree}
use Rattle.modref_trees.specs.declared.trees.Tree.TheVariants.{All, Of}
use Rattle.modref_trees.specs.declared.trees.Summary.{Summary}

-- any offset holds each
abbrev pub offset_holds : Option ℤ → Option ℤ → Bool
offset_holds None o = true
offset_holds (Some z) None = false
offset_holds (Some z) (Some w) = int_eq z w

abbrev pub same_base : TreeBase → TreeBase → Bool
same_base (Formal i) (Formal j) = i == j
same_base (Global k) (Global j) = k == j
same_base Any Any = true
same_base a b = false

-- any base holds each with each offset
abbrev pub base_holds : TreeBase → Option ℤ → TreeBase → Option ℤ → Bool
base_holds Any o b p = true
base_holds (Formal i) o b p = same_base (Formal i) b && offset_holds o p
base_holds (Global k) o b p = same_base (Global k) b && offset_holds o p

-- an access holds another one of its scalar
abbrev pub holds : Access → Access → Bool
holds a b = same_scalar a.scalar b.scalar && base_holds a.base a.offset b.base b.offset

-- a tree is everything, or holds what one of its accesses holds
abbrev pub covers : Tree → Access → Bool
covers All b = true
covers (Of accesses) b = list_any (λ a. holds a b) accesses

-- everything, for each function
abbrev pub everything_of : Program → List Summary
everything_of p = map (λ (f : Function). record { loads = All; stores = All }) p.functions
