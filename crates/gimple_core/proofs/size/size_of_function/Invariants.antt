use Rattle.std.proofs.Common.{◌≡◌, take}
use Rattle.std.specs.Prelude.{sum_by}
use Rattle.gimple_ir.specs.Size.{size_of_block}
use Rattle.gimple_core.proofs.size.size_of_function.Given as goal

abbrev pub invariant-loop-block : goal.invariant-loop-block
invariant-loop-block l = l.size ≡ sum_by size_of_block (take l.block-index l.function.blocks)
