use Rattle.std.proofs.Common.{◌≡◌, ◌∙◌, ap, List}
use Rattle.gimple_ir.specs.declared.block.Block.{Block}
use Rattle.block_flow.specs.Branches.{block_place}
use Rattle.block_flow.proofs.BranchCounts.{labelled, block_within}
use Rattle.block_flow.proofs.branching.LabelledBlocks.place.Goals as goal

pub returns : goal.returns
returns c =
    let at : c.place.result ≡ block_place c.args.label c.args.self.now =
    labelled c.self.inside.blocks.now c.self.inside.labels c.args.label c.place.result c.self.invariant c.place.ensures
    ∙ ap (λ (bs : List Block). block_place c.args.label bs) c.self.view_is in
    record { value = at; within = block_within c.args.self.now c.args.label c.place.result at }
