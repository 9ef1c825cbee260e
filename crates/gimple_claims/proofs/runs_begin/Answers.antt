use Rattle.gimple_claims.proofs.runs_begin.Goals as goal
use Rattle.gimple_claims.proofs.Aborts.{runs_begin}

pub returns : goal.returns
returns c = runs_begin
