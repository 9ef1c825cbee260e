use Rattle.gimple_lowered.specs.Meaning.{ends}
use Rattle.gimple_exec.proofs.machine.Machine.finish.Goals as goal

pub returns-in-Switch : goal.returns-in-Switch
unfolding ends
returns-in-Switch c = rw (c.in-Switch.is, ← c.chosen-target.ensures) c.jump-in-Switch.ensures

pub returns-then-holds : goal.returns-then-holds
unfolding ends
returns-then-holds c = rw (c.in-If.is, ← c.holds.ensures, c.if-holds.true) c.jump-then-holds.ensures

pub returns-else-holds : goal.returns-else-holds
unfolding ends
returns-else-holds c = rw (c.in-If.is, ← c.holds.ensures, c.if-holds.false) c.jump-else-holds.ensures
