use Rattle.std.proofs.Common.{◌*ℤ◌, FitsSigned}
use Rattle.std.specs.Int.{w128}
use Rattle.std.proofs.lemmas.Int.{to_z-of_z}
use Rattle.gimple_core.proofs.NumberLemmas.{product_fits}
use Rattle.value_domain.proofs.numbers.times.Goals as goal

pub returns : goal.returns
returns c =
    let a : FitsSigned w128 c.args.left = c.ranges.left in
    let b : FitsSigned w128 c.args.right = c.ranges.right in
    let x : FitsSigned w128 (c.args.left *ℤ c.args.right) = product_fits _ _ c.requires.left c.requires.right in
    simp to_z-of_z
