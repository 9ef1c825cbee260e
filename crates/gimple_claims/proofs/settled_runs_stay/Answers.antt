use Rattle.gimple_claims.proofs.settled_runs_stay.Goals as goal
use Rattle.gimple_claims.proofs.Settled.{settled_runs_stay}

pub returns : goal.returns
returns c = settled_runs_stay
