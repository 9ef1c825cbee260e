use Rattle.std.proofs.Common.{◌*ℤ◌, FitsSigned}
use Rattle.std.specs.Int.{w128}
use Rattle.std.proofs.lemmas.Int.{to_z-of_z}
use Rattle.gimple_core.proofs.operators.multiply_signed.Goals as goal
use Rattle.gimple_core.proofs.NumberLemmas.{product_fits}

pub returns : goal.returns
returns c =
    let left : FitsSigned w128 c.args.left = c.ranges.left in
    let right : FitsSigned w128 c.args.right = c.ranges.right in
    let product : FitsSigned w128 (c.args.left *ℤ c.args.right) = product_fits _ _ c.requires.left c.requires.right in
    simp to_z-of_z
