use Rattle.gimple_claims.proofs.slots_keep_values.Goals as goal
use Rattle.gimple_claims.proofs.Slots.{slots_keep_values}

pub returns : goal.returns
returns c = slots_keep_values
