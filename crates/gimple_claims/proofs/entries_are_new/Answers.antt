use Rattle.gimple_claims.proofs.entries_are_new.Goals as goal
use Rattle.gimple_claims.proofs.Fresh.{entries_are_new}

pub returns : goal.returns
returns c = entries_are_new
