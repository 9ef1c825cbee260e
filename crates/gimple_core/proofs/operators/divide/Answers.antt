use Rattle.std.proofs.Common.{◌≡◌, ◌==◌, false, unsigned_abs, int_div, FitsSigned}
use Rattle.std.specs.Int.{w128}
use Rattle.std.proofs.lemmas.Int.{to_z-of_z}
use Rattle.gimple_core.proofs.operators.divide.Goals as goal
use Rattle.gimple_core.proofs.NumberLemmas.{abs_nonzero, quotient_fits}
use Rattle.gimple_core.specs.Operators.{op_of}

pub returns : goal.returns
unfolding op_of
returns c mode =
    let left : FitsSigned w128 c.args.left = c.ranges.left in
    let right : FitsSigned w128 c.args.right = c.ranges.right in
    let nonzero : (unsigned_abs c.args.right == 0) ≡ false = abs_nonzero c.args.right c.if-right-eq0.false in
    let quotient : FitsSigned w128 (int_div c.args.left c.args.right) = quotient_fits _ _ c.requires.left in
    rw nonzero (simp to_z-of_z at c.keep_within.ensures)
