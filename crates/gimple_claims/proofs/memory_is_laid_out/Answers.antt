use Rattle.gimple_claims.proofs.memory_is_laid_out.Goals as goal
use Rattle.gimple_claims.proofs.Once.{slots_are_once}
use Rattle.gimple_claims.proofs.Shapes.{memory_is_laid_out}

pub returns-clause-shape : goal.returns-clause-shape
returns-clause-shape c = memory_is_laid_out

pub returns-clause-once : goal.returns-clause-once
returns-clause-once c = slots_are_once
