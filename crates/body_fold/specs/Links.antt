-- What the ends of blocks lead to, by the numbers of blocks.
use Rattle.std.specs.Prelude.{ℕ, Bool, true, false, List, [], ◌∷◌, map, slice_index_or}
use Rattle.gimple_ir.specs.declared.block.Block.{Block}
use Rattle.gimple_ir.specs.declared.block.End.{End}
use Rattle.block_flow.specs.Branches.{block_place, place_or, labels_of}

-- the numbers of the blocks of labels, where there is none the first one
unfoldable pub places_of : List Block → List ℕ → List ℕ
places_of blocks labels = map (λ l. place_or (block_place l blocks)) labels

abbrev pub targets_of : List Block → End → List ℕ
targets_of blocks e = places_of blocks (labels_of e)

abbrev pub all_targets : List Block → List Block → List (List ℕ)
all_targets blocks bs = map (λ b. targets_of blocks b.end) bs

-- what the block of a number leads to
abbrev pub out_of : List Block → ℕ → List ℕ
out_of blocks k = slice_index_or (all_targets blocks blocks) k []

-- the blocks that are marked, in their order
abbrev pub unless_dropped : Bool → Block → List Block → List Block
unless_dropped true b bs = b ∷ bs
unless_dropped false b bs = bs

unfoldable pub marked_blocks : List Bool → List Block → List Block
marked_blocks [] bs = []
marked_blocks (mark ∷ marks) [] = []
marked_blocks (mark ∷ marks) (b ∷ bs) = unless_dropped mark b (marked_blocks marks bs)
