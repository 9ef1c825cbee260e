use Rattle.std.proofs.Common.{◌∙◌, sym}
use Rattle.gimple_exec.proofs.MadeLemmas.{filled_more, filled_all}
use Rattle.gimple_exec.proofs.memory.fill.Goals as goal

pub loop-k-preserved : goal.loop-k-preserved
loop-k-preserved c =
    rw (c.in_ok-push.ensures, c.value_at.ensures) (filled_more c.loop-k.slots c.args.object c.args.layout.now c.args.values.now c.loop-k.k _ c.loop-k-test.true ∙ c.loop-k.invariant)

pub returns : goal.returns
returns c =
    sym (filled_all c.loop-k.slots c.args.object c.args.layout.now c.args.values.now c.loop-k.k c.loop-k-test.false) ∙ c.loop-k.invariant
