use Rattle.std.proofs.Common.{◌≡◌, ◌==◌, false, unsigned_abs, int_div, int_rem, FitsSigned}
use Rattle.std.specs.Int.{w128}
use Rattle.std.proofs.lemmas.Int.{to_z-of_z}
use Rattle.gimple_core.proofs.operators.remainder.Goals as goal
use Rattle.gimple_core.proofs.NumberLemmas.{abs_nonzero, quotient_fits, remainder_fits}
use Rattle.gimple_core.specs.Operators.{op_of, in_scalar}

pub returns-then-fits : goal.returns-then-fits
unfolding op_of
returns-then-fits c mode =
    let left : FitsSigned w128 c.args.left = c.ranges.left in
    let right : FitsSigned w128 c.args.right = c.ranges.right in
    let nonzero : (unsigned_abs c.args.right == 0) ≡ false = abs_nonzero c.args.right c.if-right-eq0.false in
    let quotient : FitsSigned w128 (int_div c.args.left c.args.right) = quotient_fits _ _ c.requires.left in
    let remainder : FitsSigned w128 (int_rem c.args.left c.args.right) = remainder_fits _ _ c.requires.left in
    let h : c.fits.result ≡ in_scalar c.args.scalar (int_div c.args.left c.args.right) = simp to_z-of_z at c.fits.ensures in
    simp (to_z-of_z, nonzero, ← h, c.if-fits.true)

pub returns-else-fits : goal.returns-else-fits
unfolding op_of
returns-else-fits c mode =
    let left : FitsSigned w128 c.args.left = c.ranges.left in
    let right : FitsSigned w128 c.args.right = c.ranges.right in
    let nonzero : (unsigned_abs c.args.right == 0) ≡ false = abs_nonzero c.args.right c.if-right-eq0.false in
    let quotient : FitsSigned w128 (int_div c.args.left c.args.right) = quotient_fits _ _ c.requires.left in
    let h : c.fits.result ≡ in_scalar c.args.scalar (int_div c.args.left c.args.right) = simp to_z-of_z at c.fits.ensures in
    simp (nonzero, ← h, c.if-fits.false)
