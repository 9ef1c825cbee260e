use Rattle.std.proofs.Common.{List, sym, ◌∙◌, ap, subst, slice_get}
use Rattle.gimple_ir.specs.declared.block.Block.{Block}
use Rattle.gimple_claims.specs.Checks.{BlocksPass}
use Rattle.body_fold.specs.Blocks.{stmt_in, end_in}
use Rattle.body_fold.specs.Folders.{folding_in}
use Rattle.body_fold.proofs.AtPoints.{block_there, block_passes_at, blocks_more}
use Rattle.body_fold.proofs.folder.Folder.blocks.Goals as goal

pub block-requires-clause-there : goal.block-requires-clause-there
block-requires-clause-there c =
    ap (λ bs. slice_get bs c.loop-number.number) (sym c.as_slice-from.ensures) ∙ block_there c.as_slice-from.result.now c.loop-number.number c.index-from-number.result c.loop-number-test.true c.index-from-number.is

pub block-requires-clause-few : goal.block-requires-clause-few
block-requires-clause-few c = c.requires.few.bodies_few c.loop-number.number c.index-from-number.result (block-requires-clause-there c)

pub block-requires-clause-passes : goal.block-requires-clause-passes
block-requires-clause-passes c =
    block_passes_at (folding_in c.args.self.now).env (folding_in c.args.self.now).names c.as_slice-from.result.now c.loop-number.number c.index-from-number.result c.loop-number-test.true c.index-from-number.is
    (subst (λ (bs : List Block). BlocksPass (folding_in c.args.self.now).env (folding_in c.args.self.now).names bs) (sym c.as_slice-from.ensures) c.requires.passes)

pub loop-number-preserved : goal.loop-number-preserved
loop-number-preserved c =
    blocks_more (stmt_in c.args.self.now c.args.values.now) (end_in c.args.self.now c.args.values.now) c.loop-number.number c.as_slice-from.result.now c.index-from-number.result c.in_ok-block.block c.loop-number.blocks.items c.push.new.self.items _
    c.loop-number-test.true c.index-from-number.is c.in_ok-block.ensures c.in_ok-push.ensures.items c.loop-number.invariant
