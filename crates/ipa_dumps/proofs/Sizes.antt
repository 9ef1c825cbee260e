-- Sizes bound numbers.
use Rattle.std.proofs.Common.{◌≤◌, List, [], ◌∷◌, length, sum_by, arith}
use Rattle.std.proofs.lemmas.List.Sums.{sum_by-cons}
use Rattle.gimple_ir.specs.declared.block.Block.{Block}
use Rattle.gimple_ir.specs.Size.{size_of_block}

-- there are at most as many blocks as statements, ends included
pub many_blocks : (bs : List Block) → length bs ≤ sum_by size_of_block bs
many_blocks [] = omega arith
many_blocks (b ∷ bs) = let h = many_blocks bs in let e = sum_by-cons size_of_block b bs in omega (arith, h, e)
