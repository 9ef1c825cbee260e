use Rattle.std.proofs.Common.{FitsSigned, rules, pos, ap, ◌≡◌, ◌∙◌, ◌-◌, ◌^◌}
use Rattle.std.specs.Int.{w128}
use Rattle.std.proofs.lemmas.Int.{to_z-of_z}
use Rattle.value_domain.specs.Thresholds.{put_word}
use Rattle.value_domain.proofs.LawfulLemmas.{negative_is}
use Rattle.value_domain.proofs.limits.put_negative.Goals as goal

pub returns : goal.returns
returns c =
    let b : FitsSigned w128 c.from-below.result = search rules in
    let o : FitsSigned w128 c.minus.result = search rules in
    let p : FitsSigned w128 c.minus-2.result = search rules in
    let q : FitsSigned w128 c.minus-3.result = search rules in
    let below : c.from-below.result ≡ pos (2 ^ c.args.bit - 1) = c.from-below.ensures ∙ ap (λ n. pos n) c.ones.ensures in
    let n = negative_is c.args.bit c.from-below.result below in
    let start = simp to_z-of_z at c.minus.ensures in
    let next = simp to_z-of_z at c.minus-2.ensures in
    let last = simp to_z-of_z at c.minus-3.ensures in
    let first = simp to_z-of_z at c.in_ok-put.ensures in
    let second = simp to_z-of_z at c.in_ok-put-2.ensures in
    let third = simp to_z-of_z at c.in_ok-put-3.ensures in
    third ∙ (λ i. put_word ((last ∙ n.2) i) ((second ∙ (λ j. put_word ((next ∙ n.1) j) ((first ∙ (λ k. put_word ((start ∙ n.0) k) c.args.ends.now.items)) j))) i))
