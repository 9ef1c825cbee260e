use Rattle.value_domain.proofs.AboveLaws.{above_holds, join_holds}
use Rattle.value_domain.proofs.laws.higher_values_hold.Goals as goal

pub returns : goal.returns
returns c = record { above = above_holds; join = join_holds }
