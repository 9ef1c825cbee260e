use Rattle.std.proofs.Common.{◌∙◌, sym, ◌≤◌, length, arith}
use Rattle.gimple_lowered.specs.Meaning.{source_values}
use Rattle.gimple_exec.proofs.MadeLemmas.{values_more, values_all}
use Rattle.gimple_exec.proofs.entry.add_formals.Goals as goal

pub loop-k-preserved : goal.loop-k-preserved
loop-k-preserved c =
    rw (c.in_ok-push.ensures.items, c.argument-value.ensures) (values_more c.loop-k.held.items c.args.formals.now (source_values c.args.serial c.args.registers.now c.args.sources.now) c.loop-k.k c.index-formals-k.result (omega arith) c.index-formals-k.is ∙ c.loop-k.invariant)

pub returns : goal.returns
returns c =
    let all : length c.args.formals.now ≤ c.loop-k.k = omega arith in
    sym (values_all c.loop-k.held.items c.args.formals.now (source_values c.args.serial c.args.registers.now c.args.sources.now) c.loop-k.k all) ∙ c.loop-k.invariant
