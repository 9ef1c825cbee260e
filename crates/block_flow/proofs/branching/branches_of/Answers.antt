use Rattle.std.proofs.Common.{rules, ◌≡◌, ◌<◌, ◌^◌, length, sym, subst}
use Rattle.block_flow.specs.Branches.{labels_of}
use Rattle.block_flow.proofs.BranchCounts.{labels_few}
use Rattle.block_flow.proofs.branching.branches_of.Goals as goal

pub put_branches-requires-clause-labels : goal.put_branches-requires-clause-labels
put_branches-requires-clause-labels c =
    let labels : c.as_slice.result.now ≡ labels_of c.index-blocks-source.result.end = search rules in
    let within : c.loop-source.source < length c.args.blocks.now = search rules in
    subst (λ ls. length ls < 2 ^ 32) (sym labels) (labels_few c.args.blocks.now c.loop-source.source c.index-blocks-source.result within c.index-blocks-source.is c.requires.few)
