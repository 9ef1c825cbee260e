use Rattle.std.proofs.Common.{◌≡◌, drop}
use Rattle.fix_engine.specs.Lifted.{FitsLifted}
use Rattle.block_flow.specs.Steps.{after_statements}
use Rattle.block_flow.proofs.carrying.carry.Given as goal

abbrev pub invariant-loop-index : goal.invariant-loop-index
invariant-loop-index g l =
    let T = g.T.BodyAnalysis.steps l.analysis in
    record {
      fits : FitsLifted g.T.Value.Lattice.fits (g.T.BodyAnalysis.kind l.analysis) l.value;
      left : after_statements T.statement l.block l.index (drop l.index l.body) l.value ≡ after_statements T.statement l.block 0 l.body l.from;
    }
