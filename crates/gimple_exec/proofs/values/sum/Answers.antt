use Rattle.std.proofs.Common.{◌≡◌, ◌∙◌, sym, true, ◌+ℤ◌, FitsSigned, rules}
use Rattle.std.specs.Int.{w128}
use Rattle.std.proofs.lemmas.Int.{to_z-of_z}
use Rattle.gimple_core.specs.Operators.{in_scalar, op_of, IsWord}
use Rattle.gimple_lowered.proofs.WrapLemmas.{kept_same, scalar_word}
use Rattle.gimple_exec.proofs.values.sum.Goals as goal

pub returns-then-lies_in : goal.returns-then-lies_in
unfolding op_of
returns-then-lies_in c =
    let left : FitsSigned w128 c.args.left = c.ranges.left in
    let right : FitsSigned w128 c.args.right = c.ranges.right in
    let one : IsWord c.args.left = scalar_word c.args.scalar c.args.left c.requires.left in
    let other : IsWord c.args.right = scalar_word c.args.scalar c.args.right c.requires.right in
    let whole : FitsSigned w128 (c.args.left +ℤ c.args.right) = search rules in
    let inside : in_scalar c.args.scalar (c.args.left +ℤ c.args.right) ≡ true = simp to_z-of_z at (sym c.lies_in.ensures ∙ c.if-lies_in.true) in
    simp to_z-of_z (sym (kept_same c.args.mode c.args.scalar (c.args.left +ℤ c.args.right) inside))
