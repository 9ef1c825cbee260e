-- Where the indirect calls of a program stand, in file order.
use Rattle.std.specs.Prelude.{ℕ, ◌+◌, ◌==◌, ◌&&◌, ◌||◌, nat_lt, Bool, List, [], ◌∷◌, ◌++◌}
use Rattle.gimple_ir.specs.declared.block.Block.{Block}
use Rattle.gimple_ir.specs.declared.point.Point.{Point}
use Rattle.gimple_ir.specs.declared.program.Function.{Function}
use Rattle.gimple_ir.specs.declared.program.Program.{Program}
use Rattle.gimple_ir.specs.declared.statement.Stmt.{Stmt}
use Rattle.gimple_ir.specs.declared.statement.Stmt.TheVariants.{Indirect}

-- whether a place stands before another in the file
unfoldable pub is_before : Point → Point → Bool
is_before a b =
    nat_lt a.function b.function
    || ((a.function == b.function) && (nat_lt a.block b.block || ((a.block == b.block) && nat_lt a.index b.index)))

-- the place of a statement, where it is an indirect call
abbrev pub statement_place : Point → Stmt → List Point
statement_place at (Indirect to signature callee arguments) = at ∷ []
statement_place at x = []

-- the places in the statements from index on, of a block of a function
unfoldable pub body_places : ℕ → ℕ → ℕ → List Stmt → List Point
body_places function block index [] = []
body_places function block index (x ∷ xs) =
    statement_place (record { function = function; block = block; index = index }) x ++ body_places function block (index + 1) xs

unfoldable pub block_places : ℕ → ℕ → List Block → List Point
block_places function block [] = []
block_places function block (b ∷ bs) = body_places function block 0 b.body ++ block_places function (block + 1) bs

unfoldable pub function_places : ℕ → List Function → List Point
function_places function [] = []
function_places function (f ∷ fs) = block_places function 0 f.blocks ++ function_places (function + 1) fs

-- the places of the indirect calls of a program
unfoldable pub indirect_calls : Program → List Point
indirect_calls p = function_places 0 p.functions
