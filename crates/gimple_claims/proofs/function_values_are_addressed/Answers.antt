use Rattle.gimple_claims.proofs.function_values_are_addressed.Goals as goal
use Rattle.gimple_claims.proofs.Addressed.{function_values_are_addressed}

pub returns : goal.returns
returns c = function_values_are_addressed
