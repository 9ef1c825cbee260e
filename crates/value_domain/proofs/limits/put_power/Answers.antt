use Rattle.std.proofs.Common.{FitsSigned, rules, pos, ap, ◌≡◌, ◌∙◌, ◌-◌, ◌^◌}
use Rattle.std.specs.Int.{w128}
use Rattle.std.proofs.lemmas.Int.{to_z-of_z}
use Rattle.value_domain.specs.Thresholds.{put_word}
use Rattle.value_domain.proofs.LawfulLemmas.{power_is}
use Rattle.value_domain.proofs.limits.put_power.Goals as goal

pub returns : goal.returns
returns c =
    let b : FitsSigned w128 c.from-below.result = search rules in
    let p : FitsSigned w128 c.plus.result = search rules in
    let q : FitsSigned w128 c.plus-2.result = search rules in
    let below : c.from-below.result ≡ pos (2 ^ c.args.bit - 1) = c.from-below.ensures ∙ ap (λ n. pos n) c.ones.ensures in
    let n = power_is c.args.bit c.from-below.result below in
    let next = simp to_z-of_z at c.plus.ensures in
    let last = simp to_z-of_z at c.plus-2.ensures in
    let first = simp to_z-of_z at c.in_ok-put.ensures in
    let second = simp to_z-of_z at c.in_ok-put-2.ensures in
    let third = simp to_z-of_z at c.in_ok-put-3.ensures in
    third ∙ (λ i. put_word ((last ∙ n.1) i) ((second ∙ (λ j. put_word ((next ∙ n.0) j) ((first ∙ (λ k. put_word (below k) c.args.ends.now.items)) j))) i))
