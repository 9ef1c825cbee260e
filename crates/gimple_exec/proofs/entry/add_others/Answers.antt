use Rattle.std.proofs.Common.{◌∙◌, sym, ◌≤◌, [], length, arith}
use Rattle.gimple_exec.proofs.MadeLemmas.{others_more, values_all}
use Rattle.gimple_exec.proofs.entry.add_others.Goals as goal

pub loop-k-preserved : goal.loop-k-preserved
loop-k-preserved c =
    rw (c.in_ok-push.ensures.items, c.zero.ensures) (others_more c.loop-k.held.items c.args.registers.now c.loop-k.k c.index-registers-k.result (omega arith) c.index-registers-k.is ∙ c.loop-k.invariant)

pub returns : goal.returns
returns c =
    let all : length c.args.registers.now ≤ c.loop-k.k = omega arith in
    sym (values_all c.loop-k.held.items c.args.registers.now [] c.loop-k.k all) ∙ c.loop-k.invariant
