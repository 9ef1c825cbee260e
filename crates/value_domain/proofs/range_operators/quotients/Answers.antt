use Rattle.std.proofs.Common.{FitsSigned, rules, ◌∙◌}
use Rattle.std.specs.Int.{w128}
use Rattle.std.proofs.lemmas.Int.{to_z-of_z}
use Rattle.value_domain.specs.Ranges.{hull_four}
use Rattle.value_domain.proofs.range_operators.quotients.Goals as goal

pub returns : goal.returns
returns c =
    let a : FitsSigned w128 c.args.left.low = search rules in
    let b : FitsSigned w128 c.args.left.high = search rules in
    let d : FitsSigned w128 c.args.right.low = search rules in
    let e : FitsSigned w128 c.args.right.high = search rules in
    let p : FitsSigned w128 c.over-first.result = search rules in
    let q : FitsSigned w128 c.over-second.result = search rules in
    let r : FitsSigned w128 c.over-third.result = search rules in
    let s : FitsSigned w128 c.over-fourth.result = search rules in
    let whole = simp to_z-of_z at c.hull_of_four.ensures in
    let first = simp to_z-of_z at c.over-first.ensures in
    let second = simp to_z-of_z at c.over-second.ensures in
    let third = simp to_z-of_z at c.over-third.ensures in
    let fourth = simp to_z-of_z at c.over-fourth.ensures in
    whole ∙ (λ i. hull_four (first i) (second i) (third i) (fourth i))
