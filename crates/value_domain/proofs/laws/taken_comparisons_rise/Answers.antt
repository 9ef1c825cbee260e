use Rattle.value_domain.proofs.RiseLaws.{meet_rises, refine_rises}
use Rattle.value_domain.proofs.laws.taken_comparisons_rise.Goals as goal

pub returns : goal.returns
returns c = record { meet = meet_rises; comparison = refine_rises }
