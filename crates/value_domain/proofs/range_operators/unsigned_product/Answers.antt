use Rattle.std.proofs.Common.{FitsSigned, rules, ap, ◌∙◌, Some}
use Rattle.std.specs.Int.{w128}
use Rattle.std.proofs.lemmas.Int.{to_z-of_z}
use Rattle.value_domain.specs.Ranges.{whole_unless}
use Rattle.value_domain.proofs.ProductLemmas.{unsigned_product_is}
use Rattle.value_domain.proofs.range_operators.unsigned_product.Goals as goal

pub returns : goal.returns
returns c =
    let a : FitsSigned w128 c.args.left.low = search rules in
    let b : FitsSigned w128 c.args.left.high = search rules in
    let d : FitsSigned w128 c.args.right.low = search rules in
    let e : FitsSigned w128 c.args.right.high = search rules in
    let p : FitsSigned w128 c.times_up.result = search rules in
    let q : FitsSigned w128 c.times_up-2.result = search rules in
    let whole = simp to_z-of_z at c.or_whole.ensures in
    let low = simp to_z-of_z at c.times_up.ensures in
    let high = simp to_z-of_z at c.times_up-2.ensures in
    λ mode. ap Some (whole ∙ (λ i. whole_unless (c.numbers_of.ensures.value i) (record { low = low i; high = high i }))) ∙ unsigned_product_is mode c.args.scalar c.args.left c.args.right c.requires.unsigned c.requires.left c.requires.right
