use Rattle.std.proofs.Common.{rules, arith, sym, ap, to_z, of_z, ◌∙◌, ◌-◌, pos, get_or, FitsSigned}
use Rattle.std.specs.Int.{w128}
use Rattle.std.proofs.lemmas.Int.{to_z-of_z}
use Rattle.value_domain.proofs.ThresholdLemmas.{ceiling_all, ceiling_found, ceiling_after}
use Rattle.value_domain.proofs.thresholds.ceiling.Goals as goal

pub returns-then-count-eq0 : goal.returns-then-count-eq0
returns-then-count-eq0 c =
    let v : FitsSigned w128 c.args.value = c.ranges.value in
    let r : FitsSigned w128 c.at_or_highest.result = search rules in
    let above = simp to_z-of_z at c.count_up_to-count.ensures.above in
    to_z-of_z w128 _ r ∙ (c.at_or_highest.ensures ∙ ceiling_all c.args.thresholds.now c.args.value c.requires (λ k h. above k (omega arith) h))

pub returns-then-item-value : goal.returns-then-item-value
returns-then-item-value c =
    let v : FitsSigned w128 c.args.value = c.ranges.value in
    let e : FitsSigned w128 (get_or c.args.thresholds.now (c.count_up_to-count.result - 1) (pos 0)) = search rules in
    let r : FitsSigned w128 c.at_or_highest-then-item-value.result = search rules in
    to_z-of_z w128 _ r ∙ (c.at_or_highest-then-item-value.ensures ∙ ceiling_found c.args.thresholds.now c.args.value (c.count_up_to-count.result - 1) c.requires (omega arith) (sym (to_z-of_z w128 _ e) ∙ (ap (to_z w128) c.if-item-value.true ∙ to_z-of_z w128 _ v)))

pub returns : goal.returns
returns c =
    let v : FitsSigned w128 c.args.value = c.ranges.value in
    let e : FitsSigned w128 (get_or c.args.thresholds.now (c.count_up_to-count.result - 1) (pos 0)) = search rules in
    let r : FitsSigned w128 c.at_or_highest-2.result = search rules in
    let above = simp to_z-of_z at c.count_up_to-count.ensures.above in
    let below = simp to_z-of_z at c.count_up_to-count.ensures.below in
    to_z-of_z w128 _ r ∙ (c.at_or_highest-2.ensures ∙ ceiling_after c.args.thresholds.now c.args.value c.count_up_to-count.result c.requires (omega arith) c.count_up_to-count.ensures.bound (below _ (omega arith)) (λ h. c.if-item-value.false (ap (of_z w128) h)) (λ k h m. above k h m))
