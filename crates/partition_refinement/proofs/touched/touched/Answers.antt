use Rattle.std.proofs.Common.{subst}
use Rattle.partition_refinement.specs.Splitting.{Gathers, TouchedBy}
use Rattle.partition_refinement.proofs.Regarding.{touched_regarded}
use Rattle.partition_refinement.proofs.touched.touched.Goals as goal

pub returns : goal.returns
returns c = λ rows below are. touched_regarded rows c.args.callers.now c.args.partition.now c.args.work.now c.add_touched.new.items.keys below are (subst (λ l. Gathers (TouchedBy c.args.partition.now c.args.callers.now) c.args.work.now l c.add_touched.new.items.keys) c.new-items.ensures.empty c.in_ok-add_touched.ensures)
