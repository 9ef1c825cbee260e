use Rattle.gimple_claims.proofs.dead_objects_stay_dead.Goals as goal
use Rattle.gimple_claims.proofs.Dead.{dead_stay_dead}

pub returns : goal.returns
returns c = dead_stay_dead
