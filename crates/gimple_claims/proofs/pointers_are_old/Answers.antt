use Rattle.gimple_claims.proofs.pointers_are_old.Goals as goal
use Rattle.gimple_claims.proofs.Pointers.{pointers_are_old, entries_get_old_pointers}

pub returns-clause-states : goal.returns-clause-states
returns-clause-states c = pointers_are_old

pub returns-clause-entries : goal.returns-clause-entries
returns-clause-entries c = entries_get_old_pointers
