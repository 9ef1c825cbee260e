use Rattle.value_domain.proofs.TopLaws.{top_holds, top_fits}
use Rattle.value_domain.proofs.laws.top_holds_all.Goals as goal

pub returns : goal.returns
returns c = record { holds = top_holds; fits = top_fits }
