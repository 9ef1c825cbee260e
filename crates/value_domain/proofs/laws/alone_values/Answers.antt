use Rattle.value_domain.proofs.AloneLaws.{alone_holds, alone_fits}
use Rattle.value_domain.proofs.laws.alone_values.Goals as goal

pub returns : goal.returns
returns c = record { holds = alone_holds; fits = alone_fits }
