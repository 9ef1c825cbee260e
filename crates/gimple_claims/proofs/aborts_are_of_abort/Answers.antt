use Rattle.gimple_claims.proofs.aborts_are_of_abort.Goals as goal
use Rattle.gimple_claims.proofs.Aborts.{aborts_of_abort}

pub returns : goal.returns
returns c = aborts_of_abort
