use Rattle.std.proofs.Common.{◌+ℤ◌, FitsSigned, rules}
use Rattle.std.specs.Int.{w128}
use Rattle.std.proofs.lemmas.Int.{to_z-of_z}
use Rattle.gimple_core.proofs.operators.add.Goals as goal
use Rattle.gimple_core.specs.Operators.{op_of}

pub returns : goal.returns
unfolding op_of
returns c =
    let left : FitsSigned w128 c.args.left = c.ranges.left in
    let right : FitsSigned w128 c.args.right = c.ranges.right in
    let sum : FitsSigned w128 (c.args.left +ℤ c.args.right) = search rules in
    simp to_z-of_z at c.keep.ensures
