use Rattle.value_domain.proofs.MeetLaws.{meet_holds_all}
use Rattle.value_domain.proofs.RefineLaws.{refine_holds}
use Rattle.value_domain.proofs.laws.taken_comparisons_hold.Goals as goal

pub returns : goal.returns
returns c = record { meet = meet_holds_all; comparison = refine_holds }
