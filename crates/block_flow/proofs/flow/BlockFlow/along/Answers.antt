use Rattle.std.proofs.Common.{◌≡◌, ◌<◌, ◌^◌, length, sym, subst, Some, slice_get}
use Rattle.name_tables.proofs.Naming.{item_there}
use Rattle.block_flow.proofs.Flowing.{left_along}
use Rattle.block_flow.proofs.flow.BlockFlow.along.Goals as goal

pub carry-requires-clause-few : goal.carry-requires-clause-few
carry-requires-clause-few g c =
    let block : slice_get c.args.self.now.blocks.now c.args.branch.source ≡ Some c.in-Some.block.now = item_there c.args.self.now.blocks.now c.args.branch.source c.get.result c.in-Some.block c.get.ensures.lookup c.in-Some.is in
    let few : length c.in-Some.block.now.body < 2 ^ 32 = c.args.self.now.few.bodies_few c.args.branch.source c.in-Some.block.now block in
    subst (λ ys. length ys < 2 ^ 32) (sym c.as_slice.ensures) few

pub returns : goal.returns
returns g c =
    let block : slice_get c.args.self.now.blocks.now c.args.branch.source ≡ Some c.in-Some.block.now = item_there c.args.self.now.blocks.now c.args.branch.source c.get.result c.in-Some.block c.get.ensures.lookup c.in-Some.is in
    left_along (g.T.BodyAnalysis.steps c.args.self.now.analysis.now) c.args.self.now.blocks.now c.args.branch c.in-Some.block.now c.as_slice.result.now c.args.from.now c.in_ok-value.value c.leave.result block c.as_slice.ensures c.in_ok-value.ensures.after c.leave.ensures
