-- Numbers for the formals of all functions: the nodes of the equations of their values.
use Rattle.std.specs.Prelude.{◌≡◌, ◌↔◌, ℕ, zero, suc, ◌+◌, ◌<◌, ◌==◌, Bool, true, false, ◌&&◌, if◌then◌else◌, List, [], ◌∷◌, length, Option, Some, None, slice_get, slice_index_or}
use Rattle.gimple_ir.specs.declared.declarations.Register.{Register}
use Rattle.gimple_ir.specs.declared.program.Function.{Function}
use Rattle.gimple_core.specs.Reach.{IsAddressed}
use Rattle.gimple_core.specs.Sealed.{Sealed}
use Rattle.cp_lattices.specs.declared.numbering.Node.{Node}
use Rattle.cp_lattices.specs.declared.numbering.Numbering.{Numbering}
use Rattle.cp_lattices.specs.Lattices.{IsFormal}

-- the formal of a node; the node 0 has none
abbrev pub node_at : List Node → ℕ → Option Node
node_at nodes zero = None
node_at nodes (suc k) = slice_get nodes k

-- whether this is the formal of that place of the function
abbrev pub is_node : ℕ → ℕ → Option Node → Bool
is_node n i None = false
is_node n i (Some x) = (x.function == n) && (x.formal == i)

-- where the node of a formal stands, if the function has numbers
abbrev pub place_of : Numbering → ℕ → ℕ → ℕ
place_of g n i = slice_index_or g.firsts n 0 + i

-- the node of a formal of a function; 0 where there is none
unfoldable pub node_of : Numbering → ℕ → ℕ → ℕ
node_of g n i = if is_node n i (node_at g.nodes (place_of g n i)) then place_of g n i else 0

-- the nodes of the formals of a function from one of them on
unfoldable pub nodes_from : ℕ → Bool → ℕ → List Register → List Node
nodes_from n addressed i [] = []
nodes_from n addressed i (r ∷ rs) = record { function = n; formal = i; scalar = r.scalar; addressed = addressed } ∷ nodes_from n addressed (i + 1) rs

-- a node is of a formal of the program, and says whether its function's address is taken
pub record IsNode (p : Sealed) (x : Node) : Type 0 where
  pub owner : Function
  pub register : Register
  pub formal : IsFormal p x.function x.formal owner register
  pub scalar : x.scalar ≡ register.scalar
  pub addressed : (x.addressed ≡ true) ↔ IsAddressed p.program owner.name

-- how many formals the functions have whose first node is not 0
unfoldable pub numbered_formals : List ℕ → List Function → ℕ
numbered_formals [] fs = 0
numbered_formals (first ∷ firsts) [] = 0
numbered_formals (first ∷ firsts) (f ∷ fs) = (if first == 0 then 0 else length f.params) + numbered_formals firsts fs

-- the formals of the functions whose first node is not 0 have nodes, each at its place
pub record AreNumbered (p : Sealed) (g : Numbering) : Type 0 where
  pub size : length g.nodes ≡ numbered_formals g.firsts p.program.functions
  pub count : length g.firsts ≡ length p.program.functions
  pub nodes : (k : ℕ) (x : Node) → slice_get g.nodes k ≡ Some x → IsNode p x
  pub found : (n i : ℕ) (f : Function) (r : Register) → IsFormal p n i f r → 0 < slice_index_or g.firsts n 0 → is_node n i (node_at g.nodes (place_of g n i)) ≡ true

-- the first functions have numbers
abbrev pub HaveNumbers : Numbering → ℕ → Type 0
HaveNumbers g count = (n : ℕ) → n < count → 0 < slice_index_or g.firsts n 0

-- the formals of all functions
pub record IsNumbering (p : Sealed) (g : Numbering) : Type 0 where
  pub are : AreNumbered p g
  pub all : HaveNumbers g (length p.program.functions)
