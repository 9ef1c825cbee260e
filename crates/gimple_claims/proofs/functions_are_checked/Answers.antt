use Rattle.gimple_claims.proofs.functions_are_checked.Goals as goal
use Rattle.gimple_claims.proofs.Checked.{functions_are_checked}

pub returns : goal.returns
returns c = functions_are_checked
