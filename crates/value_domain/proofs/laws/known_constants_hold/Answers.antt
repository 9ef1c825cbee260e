use Rattle.value_domain.proofs.KnownLaws.{known_holds}
use Rattle.value_domain.proofs.laws.known_constants_hold.Goals as goal

pub returns : goal.returns
returns c = known_holds
