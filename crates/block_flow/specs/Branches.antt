-- The branches of the blocks of a function.
use Rattle.std.specs.Prelude.{ℕ, ◌+◌, ◌==◌, List, [], ◌∷◌, ◌++◌, map, Option, Some, None, position}
use Rattle.gimple_ir.specs.declared.block.End.{End}
use Rattle.gimple_ir.specs.declared.block.End.TheVariants.{Goto, If, Switch, Return}
use Rattle.gimple_ir.specs.declared.block.Block.{Block}
use Rattle.block_flow.specs.declared.branch.Branch.{Branch}

-- the number of the first block of a label
abbrev pub block_place : ℕ → List Block → Option ℕ
block_place label blocks = position (λ b. b.label == label) blocks

-- no program without a type fault has a label of no block
abbrev pub place_or : Option ℕ → ℕ
place_or None = 0
place_or (Some k) = k

-- the labels that an end leads to, in its branches' order
abbrev pub labels_of : End → List ℕ
labels_of (Goto label) = label ∷ []
labels_of (If left cmp right hit miss) = hit ∷ miss ∷ []
labels_of (Switch on cases other) = map (λ c. c.target) cases ++ other ∷ []
labels_of (Return x) = []

abbrev pub branches_to : List Block → ℕ → ℕ → List ℕ → List Branch
branches_to all k slot [] = []
branches_to all k slot (l ∷ ls) = record { source = k; slot = slot; target = place_or (block_place l all) } ∷ branches_to all k (slot + 1) ls

-- the branches of blocks from a number on
abbrev pub branches_from : List Block → ℕ → List Block → List Branch
branches_from all k [] = []
branches_from all k (b ∷ bs) = branches_to all k 0 (labels_of b.end) ++ branches_from all (k + 1) bs

unfoldable pub branches_of : List Block → List Branch
branches_of blocks = branches_from blocks 0 blocks
