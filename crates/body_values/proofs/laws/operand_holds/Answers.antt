use Rattle.body_values.proofs.Lookups.{operands_hold}
use Rattle.body_values.proofs.laws.operand_holds.Goals as goal

pub returns : goal.returns
returns c = operands_hold
