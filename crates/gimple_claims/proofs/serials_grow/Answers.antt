use Rattle.gimple_claims.proofs.serials_grow.Goals as goal
use Rattle.gimple_claims.proofs.Steps.{older}

pub returns : goal.returns
returns c = older
