use Rattle.value_domain.proofs.KindLaws.{kind_limit, kind_thresholds}
use Rattle.value_domain.proofs.laws.kinds_give_back.Goals as goal

pub returns : goal.returns
returns c = record { limit = kind_limit; thresholds = kind_thresholds }
