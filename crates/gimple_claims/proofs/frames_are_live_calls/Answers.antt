use Rattle.gimple_claims.proofs.frames_are_live_calls.Goals as goal
use Rattle.gimple_claims.proofs.Stack.{live_serials}

pub returns : goal.returns
returns c = live_serials
