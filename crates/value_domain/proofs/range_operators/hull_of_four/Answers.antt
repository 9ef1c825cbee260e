use Rattle.std.proofs.Common.{FitsSigned, ◌∙◌}
use Rattle.std.specs.Int.{w128}
use Rattle.std.proofs.lemmas.Int.{to_z-of_z}
use Rattle.value_domain.specs.Ranges.{hull}
use Rattle.value_domain.proofs.range_operators.hull_of_four.Goals as goal

pub returns : goal.returns
returns c =
    let f : FitsSigned w128 c.args.first = c.ranges.first in
    let g : FitsSigned w128 c.args.second = c.ranges.second in
    let h : FitsSigned w128 c.args.third = c.ranges.third in
    let k : FitsSigned w128 c.args.fourth = c.ranges.fourth in
    let first = simp to_z-of_z at c.only.ensures in
    let second = simp to_z-of_z at c.only-2.ensures in
    let third = simp to_z-of_z at c.only-3.ensures in
    let fourth = simp to_z-of_z at c.only-4.ensures in
    let left = c.join-left.ensures ∙ (λ i. hull (first i) (second i)) in
    let right = c.join-right.ensures ∙ (λ i. hull (third i) (fourth i)) in
    c.join.ensures ∙ (λ i. hull (left i) (right i))
