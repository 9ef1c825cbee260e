use Rattle.cp_lattices.proofs.GiftListLaws.{none_put, more_put}
use Rattle.cp_lattices.proofs.caller.Caller.put_arguments.Goals as goal

pub loop-formal-init : goal.loop-formal-init
loop-formal-init c = none_put _ _

pub loop-formal-preserved : goal.loop-formal-preserved
loop-formal-preserved c = more_put _ _ _ _ _ c.loop-formal.invariant c.in_ok-put_argument.ensures
