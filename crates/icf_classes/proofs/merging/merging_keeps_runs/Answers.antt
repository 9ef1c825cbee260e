use Rattle.icf_classes.proofs.MergedLaws.{merging_runs}
use Rattle.icf_classes.proofs.merging.merging_keeps_runs.Goals as goal

pub returns : goal.returns
returns c = merging_runs
