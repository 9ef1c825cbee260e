use Rattle.gimple_claims.proofs.variables_live.Goals as goal
use Rattle.gimple_claims.proofs.Variables.{variables_live, variables_have_slots, accesses_find_slots}

pub returns-clause-lives : goal.returns-clause-lives
returns-clause-lives c = variables_live

pub returns-clause-slots : goal.returns-clause-slots
returns-clause-slots c = variables_have_slots

pub returns-clause-accesses : goal.returns-clause-accesses
returns-clause-accesses c = accesses_find_slots
