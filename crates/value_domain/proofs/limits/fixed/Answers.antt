use Rattle.std.proofs.Common.{arith, ◌∙◌, sym, ap, ◌-◌, ◌+◌}
use Rattle.value_domain.specs.Thresholds.{powers_put, negatives_put, fixed_thresholds}
use Rattle.value_domain.proofs.LawfulLemmas.{powers_step, powers_end, negatives_step, negatives_end}
use Rattle.value_domain.proofs.limits.fixed.Goals as goal

pub loop-bit-preserved : goal.loop-bit-preserved
loop-bit-preserved c = ap (powers_put (65 - (c.loop-bit.bit + 1)) (c.loop-bit.bit + 1)) c.in_ok-put_power.ensures ∙ (sym (powers_step c.loop-bit.bit c.loop-bit.ends.items c.loop-bit-test.true) ∙ c.loop-bit.invariant)

pub loop-bit-2-init : goal.loop-bit-2-init
loop-bit-2-init c = ap (negatives_put 64 0) (sym (powers_end c.loop-bit.bit c.loop-bit.ends.items (omega arith)) ∙ c.loop-bit.invariant)

pub loop-bit-2-preserved : goal.loop-bit-2-preserved
loop-bit-2-preserved c = ap (negatives_put (64 - (c.loop-bit-2.bit + 1)) (c.loop-bit-2.bit + 1)) c.in_ok-put_negative.ensures ∙ (sym (negatives_step c.loop-bit-2.bit c.loop-bit-2.ends.items c.loop-bit-2-test.true) ∙ c.loop-bit-2.invariant)

pub returns : goal.returns
unfolding fixed_thresholds
returns c = sym (negatives_end c.loop-bit-2.bit c.loop-bit-2.ends.items (omega arith)) ∙ c.loop-bit-2.invariant
