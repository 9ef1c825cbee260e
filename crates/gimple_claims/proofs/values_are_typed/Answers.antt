use Rattle.gimple_claims.proofs.values_are_typed.Goals as goal
use Rattle.gimple_claims.proofs.Typed.{values_are_typed}
use Rattle.gimple_claims.proofs.TypedEvents.{events_are_typed}

pub returns-clause-states : goal.returns-clause-states
returns-clause-states c = values_are_typed

pub returns-clause-events : goal.returns-clause-events
returns-clause-events c = events_are_typed
