use Rattle.std.proofs.Common.{rules, arith, sym, ◌∙◌, ◌-◌, pos, get_or, FitsSigned}
use Rattle.std.specs.Int.{w128}
use Rattle.std.proofs.lemmas.Int.{to_z-of_z}
use Rattle.value_domain.specs.RangeOperators.{lowest}
use Rattle.value_domain.proofs.RoundingLemmas.{floor_none, floor_at}
use Rattle.value_domain.proofs.ThresholdLemmas.{rises, word_at}
use Rattle.value_domain.proofs.thresholds.floor.Goals as goal

pub returns-then-count-eq0 : goal.returns-then-count-eq0
returns-then-count-eq0 c =
    let v : FitsSigned w128 c.args.value = c.ranges.value in
    let above = simp to_z-of_z at c.count_up_to-count.ensures.above in
    sym (floor_none lowest c.args.thresholds.now c.args.value (λ k h m. above k (omega arith) m))

pub returns-else-count-eq0 : goal.returns-else-count-eq0
returns-else-count-eq0 c =
    let e : FitsSigned w128 (get_or c.args.thresholds.now (c.count_up_to-count.result - 1) (pos 0)) = search rules in
    let v : FitsSigned w128 c.args.value = c.ranges.value in
    let above = simp to_z-of_z at c.count_up_to-count.ensures.above in
    let below = simp to_z-of_z at c.count_up_to-count.ensures.below in
    to_z-of_z w128 _ e ∙ sym (floor_at lowest c.args.thresholds.now c.args.value (c.count_up_to-count.result - 1) (rises c.args.thresholds.now c.requires.rising) (word_at c.args.thresholds.now _ c.requires (omega arith)).0 (omega arith) (below _ (omega arith)) (λ k h m. above k (omega arith) m))
