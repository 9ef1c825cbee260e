use Rattle.body_symbols.proofs.Jumping.{jumps_hold}
use Rattle.body_symbols.proofs.laws.jumps_hold.Goals as goal

pub returns : goal.returns
returns c = jumps_hold
