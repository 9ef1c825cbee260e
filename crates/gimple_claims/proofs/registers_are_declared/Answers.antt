use Rattle.gimple_claims.proofs.registers_are_declared.Goals as goal
use Rattle.gimple_claims.proofs.Registers.{registers_are_declared}

pub returns : goal.returns
returns c = registers_are_declared
