use Rattle.block_flow.proofs.Staying.{unwritten_hold}
use Rattle.block_flow.proofs.unwritten.unwritten_hold.Goals as goal

pub returns : goal.returns
returns c = unwritten_hold
