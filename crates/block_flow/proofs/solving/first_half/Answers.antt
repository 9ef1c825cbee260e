use Rattle.block_flow.proofs.Numbers.{begins_first}
use Rattle.block_flow.proofs.solving.first_half.Goals as goal

pub returns : goal.returns
returns g c =
    begins_first g.met.T.Value.Lattice.laws (g.T.BodyAnalysis.kind c.args._analysis.now) (g.T.BodyAnalysis.steps c.args._analysis.now) (g.met.T.BodyAnalysis.laws c.args._analysis.now) c.args.blocks.now c.args.values.items c.truncate.new.self.items c.requires c.truncate.ensures.items
