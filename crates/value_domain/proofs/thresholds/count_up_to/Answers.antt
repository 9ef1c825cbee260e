use Rattle.std.proofs.Common.{rules, arith, ◌+◌, ◌-◌, ◌/◌, pos, get_or, FitsSigned}
use Rattle.std.specs.Int.{w128}
use Rattle.std.proofs.lemmas.Int.{ints}
use Rattle.value_domain.proofs.RoundingLemmas.{search_right, search_left}
use Rattle.value_domain.proofs.ThresholdLemmas.{rises}
use Rattle.value_domain.proofs.thresholds.count_up_to.Goals as goal

pub loop-low-preserved-then-item-value : goal.loop-low-preserved-then-item-value
loop-low-preserved-then-item-value c =
    let e : FitsSigned w128 (get_or c.args.thresholds.now (c.loop-low.low + (c.loop-low.high - c.loop-low.low) / 2) (pos 0)) = search rules in
    search_right c.args.thresholds.now c.loop-low.low c.loop-low.high _ _ (rises c.args.thresholds.now c.requires.rising) c.loop-low.invariant (omega arith) (omega arith) (omega (arith, ints, c.if-item-value.true))

pub loop-low-preserved : goal.loop-low-preserved
loop-low-preserved c =
    let e : FitsSigned w128 (get_or c.args.thresholds.now (c.loop-low.low + (c.loop-low.high - c.loop-low.low) / 2) (pos 0)) = search rules in
    search_left c.args.thresholds.now c.loop-low.low c.loop-low.high _ _ (rises c.args.thresholds.now c.requires.rising) c.loop-low.invariant (omega arith) (omega arith) (omega (arith, ints, c.if-item-value.false))
