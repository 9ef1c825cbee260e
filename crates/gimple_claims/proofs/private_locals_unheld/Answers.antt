use Rattle.gimple_claims.proofs.private_locals_unheld.Goals as goal
use Rattle.gimple_claims.proofs.Private.{private_locals_not_passed, private_locals_unheld}
use Rattle.gimple_claims.proofs.PrivateAccesses.{frames_have_begun, private_locals_by_name}

pub returns-clause-states : goal.returns-clause-states
returns-clause-states c = private_locals_unheld

pub returns-clause-frames : goal.returns-clause-frames
returns-clause-frames c = frames_have_begun

pub returns-clause-entries : goal.returns-clause-entries
returns-clause-entries c = private_locals_not_passed

pub returns-clause-accesses : goal.returns-clause-accesses
returns-clause-accesses c = private_locals_by_name
