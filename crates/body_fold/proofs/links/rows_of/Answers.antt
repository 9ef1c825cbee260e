use Rattle.std.proofs.Common.{rules, ◌∙◌, ap, get_or, List}
use Rattle.gimple_ir.specs.declared.block.Block.{Block}
use Rattle.body_fold.specs.Links.{targets_of}
use Rattle.body_fold.proofs.Linking.{rows_more}
use Rattle.body_fold.proofs.links.rows_of.Goals as goal

pub loop-at-preserved : goal.loop-at-preserved
loop-at-preserved c = (
  search rules,
  rows_more c.args.blocks.now c.loop-at.rows.items c.push.new.self.items c.in_ok-row.row c.loop-at.at c.index-blocks-at.result _ c.loop-at-test.true
      (c.in_ok-row.ensures ∙ ap (λ (bs : List Block). targets_of bs (get_or c.args.blocks.now c.loop-at.at c.index-blocks-at.result).end) c.in_ok-labelled.ensures) c.in_ok-push.ensures.items c.loop-at.invariant.1,
)
