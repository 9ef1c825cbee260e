use Rattle.std.proofs.Common.{◌≡◌, ◌++◌}
use Rattle.body_fold.specs.Links.{marked_blocks}
use Rattle.body_fold.proofs.folding.keep_marked.Given as goal

abbrev pub invariant-loop-block : goal.invariant-loop-block
invariant-loop-block l = l.kept.items ++ marked_blocks l.block-iterator.b.rest.now l.block-iterator.a.rest.items ≡ marked_blocks l.marks l.fn.blocks.items
