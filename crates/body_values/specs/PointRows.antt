-- The values at each index of each block, in lists.
use Rattle.std.specs.Prelude.{ℕ, ◌+◌, List, [], ◌∷◌}
use Rattle.gimple_ir.specs.declared.block.Block.{Block}
use Rattle.gimple_ir.specs.declared.statement.Stmt.{Stmt}
use Rattle.fix_engine.specs.declared.lifted.Lifted.{Lifted}
use Rattle.value_domain.specs.declared.abs_val.AbsVal.{AbsVal}
use Rattle.block_flow.specs.Steps.{where_reached}
use Rattle.body_values.specs.Bodies.{Body, after_stmt}

-- the values before each statement from an index on, and at the end
abbrev pub rows_from : Body → ℕ → ℕ → List Stmt → Lifted (List AbsVal) → List (Lifted (List AbsVal))
rows_from B k i [] x = x ∷ []
rows_from B k i (s ∷ ss) x = x ∷ rows_from B k (i + 1) ss (where_reached x (after_stmt B k i s))

-- those of each block from a number on, by the values at their begins
abbrev pub block_rows : Body → ℕ → List Block → List (Lifted (List AbsVal)) → List (List (Lifted (List AbsVal)))
block_rows B k [] xs = []
block_rows B k (b ∷ bs) [] = []
block_rows B k (b ∷ bs) (x ∷ xs) = rows_from B k 0 b.body x ∷ block_rows B (k + 1) bs xs
