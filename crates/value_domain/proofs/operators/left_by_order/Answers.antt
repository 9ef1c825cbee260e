use Rattle.std.proofs.Common.{◌∙◌, Some}
use Rattle.value_domain.specs.Ranges.{meet_range}
use Rattle.value_domain.specs.RangeOperators.{rounded_each}
use Rattle.value_domain.specs.ConstantOperators.{kept_vals}
use Rattle.value_domain.specs.AbsOperators.{assembled, lies_in}
use Rattle.value_domain.proofs.operators.left_by_order.Goals as goal

pub returns : goal.returns
returns c =
    let vals = c.in_ok-vals.ensures ∙ (λ i. kept_vals (lies_in (c.allowed_by-wanted.ensures i)) c.args.side.now.vals) in
    let range = c.meet_rounded-range.ensures ∙ (λ i. rounded_each c.args.limits.now.ends (meet_range (c.allowed_by-wanted.ensures i) c.args.side.now.range)) in
    c.assemble.ensures ∙ (λ i. assembled (vals i) (Some c.args.side.now.bits) (range i))
