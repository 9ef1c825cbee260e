use Rattle.gimple_claims.proofs.slots_after_stores.Goals as goal
use Rattle.gimple_claims.proofs.Updates.{stored_slots_hold, other_slots_stay, stored_accesses_find, other_accesses_find}

pub returns-clause-stored : goal.returns-clause-stored
returns-clause-stored c = stored_slots_hold

pub returns-clause-others : goal.returns-clause-others
returns-clause-others c = other_slots_stay

pub returns-clause-found : goal.returns-clause-found
returns-clause-found c = stored_accesses_find

pub returns-clause-others_found : goal.returns-clause-others_found
returns-clause-others_found c = other_accesses_find
