-- The calls by name of a program, as edges between the numbers of its functions.
use Rattle.std.specs.Prelude.{ℕ, ◌+◌, ◌==◌, Bool, true, false, List, [], ◌∷◌, ◌++◌, map, Option, Some, None}
use Rattle.std.specs.List.{position_or_len}
use Rattle.gimple_ir.specs.declared.block.Block.{Block}
use Rattle.gimple_ir.specs.declared.point.Edge.{Edge}
use Rattle.gimple_ir.specs.declared.point.Point.{Point}
use Rattle.gimple_ir.specs.declared.program.Function.{Function}
use Rattle.gimple_ir.specs.declared.program.Program.{Program}
use Rattle.gimple_ir.specs.declared.statement.Stmt.{Stmt}
use Rattle.std.specs.Str.{bytes_eq}
use Rattle.gimple_core.specs.Run.{Callee, Named, Through, Calling, call_of}

-- the names of the functions in file order
abbrev pub names_of : Program → List (List ℕ)
names_of p = map (λ f. f.name) p.functions

-- the number of the function of a name
unfoldable pub number_in : List (List ℕ) → List ℕ → ℕ
number_in names name = position_or_len (λ n. bytes_eq n name) names

-- the edge of a call by name; a call through a register has none
abbrev pub callee_edges : List (List ℕ) → Point → Callee → List Edge
callee_edges names point (Named name) = record { caller = point.function; point = point; callee = number_in names name } ∷ []
callee_edges names point (Through name signature) = []

-- the edge of a call at a point, if there is one
abbrev pub call_edges : List (List ℕ) → Point → Option Calling → List Edge
call_edges names point None = []
call_edges names point (Some c) = callee_edges names point c.callee

-- the edges of the statements from index on, of a block of a function
unfoldable pub body_edges : List (List ℕ) → ℕ → ℕ → ℕ → List Stmt → List Edge
body_edges names function block index [] = []
body_edges names function block index (x ∷ xs) =
    call_edges names (record { function = function; block = block; index = index }) (call_of x) ++ body_edges names function block (index + 1) xs

unfoldable pub block_edges : List (List ℕ) → ℕ → ℕ → List Block → List Edge
block_edges names function block [] = []
block_edges names function block (b ∷ bs) = body_edges names function block 0 b.body ++ block_edges names function (block + 1) bs

unfoldable pub function_edges : List (List ℕ) → ℕ → List Function → List Edge
function_edges names function [] = []
function_edges names function (f ∷ fs) = block_edges names function 0 f.blocks ++ function_edges names (function + 1) fs

-- the calls by name of a program in file order
unfoldable pub edges_of : Program → List Edge
edges_of p = function_edges (names_of p) 0 p.functions

-- the callees of the edges of a caller, in their order
abbrev pub with_callee : Bool → ℕ → List ℕ → List ℕ
with_callee true callee rest = callee ∷ rest
with_callee false callee rest = rest

unfoldable pub callees_in : List Edge → ℕ → List ℕ
callees_in [] caller = []
callees_in (e ∷ es) caller = with_callee (caller == e.caller) e.callee (callees_in es caller)

-- what each function calls by name, by number
abbrev pub callees_of : Program → ℕ → List ℕ
callees_of p caller = callees_in (edges_of p) caller
