use Rattle.gimple_exec.proofs.values.holds.Goals as goal

pub returns : goal.returns
returns c = rw (c.in-Some.ensures c.args.serial, c.in-Some-held.ensures c.args.serial) c.compare.ensures
