-- Blocks with new statements and ends, as the code has them.
use Rattle.std.specs.Prelude.{ℕ, true, List}
use Rattle.gimple_ir.specs.declared.statement.Stmt.{Stmt}
use Rattle.gimple_ir.specs.declared.block.End.{End}
use Rattle.gimple_ir.specs.declared.block.Block.{Block}
use Rattle.gimple_claims.specs.Kept.{new_body, new_blocks}
use Rattle.body_values.specs.Found.{Found, found_row}
use Rattle.body_values.specs.declared.scene.Scene.{Scene}
use Rattle.body_values.specs.Scenes.{FitsIn}
use Rattle.body_fold.specs.declared.folder.Folder.{Folder}
use Rattle.body_fold.specs.Fold.{new_stmt, new_end}
use Rattle.body_fold.specs.Folders.{folding_in}

-- the values of registers fit at each point
abbrev pub PointsFit : Scene → Found → Type 0
PointsFit s t = (k i : ℕ) → FitsIn s (found_row t.rows k i)

-- the statement at a point, and the end of a block
unfoldable pub stmt_in : Folder → Found → ℕ → ℕ → Stmt → Stmt
stmt_in s t k i x = new_stmt (folding_in s) (λ k i. found_row t.rows k i) k i x

unfoldable pub end_in : Folder → Found → ℕ → End → End
end_in s t k e = new_end (folding_in s) s.function.now.blocks (λ k i. found_row t.rows k i) k e

abbrev pub block_in : Folder → Found → ℕ → Block → Block
block_in s t k b = record { label = b.label; body = new_body (stmt_in s t) k 0 b.body; end = end_in s t k b.end }

-- all blocks of the function
abbrev pub blocks_in : Folder → Found → List Block
blocks_in s t = new_blocks (stmt_in s t) (end_in s t) (λ k. true) 0 s.function.now.blocks
