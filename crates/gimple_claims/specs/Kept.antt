-- Bodies whose statements and ends are replaced, and the blocks that are kept.
use Rattle.std.specs.Prelude.{ℕ, ◌+◌, Bool, if◌then◌else◌, List, [], ◌∷◌}
use Rattle.gimple_ir.specs.declared.statement.Stmt.{Stmt}
use Rattle.gimple_ir.specs.declared.block.End.{End}
use Rattle.gimple_ir.specs.declared.block.Block.{Block}

-- what stands at each point of a block, from an index on
abbrev pub new_body : (ℕ → ℕ → Stmt → Stmt) → ℕ → ℕ → List Stmt → List Stmt
new_body put k i [] = []
new_body put k i (x ∷ xs) = put k i x ∷ new_body put k (i + 1) xs

-- the blocks that are kept, from this number on
abbrev pub new_blocks : (ℕ → ℕ → Stmt → Stmt) → (ℕ → End → End) → (ℕ → Bool) → ℕ → List Block → List Block
new_blocks put end keep k [] = []
new_blocks put end keep k (b ∷ bs) =
    if keep k then record { label = b.label; body = new_body put k 0 b.body; end = end k b.end } ∷ new_blocks put end keep (k + 1) bs else new_blocks put end keep (k + 1) bs
