use Rattle.std.proofs.Common.{◌-ℤ◌, FitsSigned, rules}
use Rattle.std.specs.Int.{w128}
use Rattle.std.proofs.lemmas.Int.{to_z-of_z}
use Rattle.value_domain.proofs.numbers.minus.Goals as goal

pub returns : goal.returns
returns c =
    let a : FitsSigned w128 c.args.left = c.ranges.left in
    let b : FitsSigned w128 c.args.right = c.ranges.right in
    let x : FitsSigned w128 (c.args.left -ℤ c.args.right) = search rules in
    simp to_z-of_z
