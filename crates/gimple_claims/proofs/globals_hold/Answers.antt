use Rattle.gimple_claims.proofs.globals_hold.Goals as goal
use Rattle.gimple_claims.proofs.Globals.{globals_hold}

pub returns : goal.returns
returns c = globals_hold
