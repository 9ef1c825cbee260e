use Rattle.gimple_claims.proofs.nothing_is_lost.Goals as goal
use Rattle.gimple_claims.proofs.Lost.{nothing_is_lost}

pub returns : goal.returns
returns c = nothing_is_lost
