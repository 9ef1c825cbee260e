use Rattle.value_domain.proofs.MeetLaws.{meet_fits_all}
use Rattle.value_domain.proofs.RefineLaws.{refine_fits}
use Rattle.value_domain.proofs.laws.taken_comparisons_fit.Goals as goal

pub returns : goal.returns
returns c = record { meet = meet_fits_all; comparison = refine_fits }
