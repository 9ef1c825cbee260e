use Rattle.gimple_claims.proofs.living_objects_are_of_frames.Goals as goal
use Rattle.gimple_claims.proofs.Living.{living_are_of_frames}

pub returns : goal.returns
returns c = living_are_of_frames
