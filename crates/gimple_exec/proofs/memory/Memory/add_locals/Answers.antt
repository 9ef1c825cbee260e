use Rattle.std.proofs.Common.{◌∙◌, sym}
use Rattle.gimple_exec.proofs.MadeLemmas.{locals_more, locals_all}
use Rattle.gimple_exec.proofs.memory.Memory.add_locals.Goals as goal

pub returns : goal.returns
returns c =
    sym (locals_all c.args.structs.now c.args.serial c.loop-k.k c.args.locals.now c.loop-k.self c.loop-k-test.false) ∙ c.loop-k.invariant

pub loop-k-preserved : goal.loop-k-preserved
loop-k-preserved c =
    rw (c.in_ok-add_object.ensures, c.in_ok-layout.ensures)
    (locals_more c.args.structs.now c.args.serial c.loop-k.k c.args.locals.now c.loop-k.self c.index-locals-k.result c.loop-k-test.true c.index-locals-k.is ∙ c.loop-k.invariant)
