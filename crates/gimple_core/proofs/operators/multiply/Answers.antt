use Rattle.std.proofs.Common.{FitsSigned, rules, ◌∙◌, ap, sym, Ok}
use Rattle.std.specs.Int.{w128}
use Rattle.std.proofs.lemmas.Int.{to_z-of_z}
use Rattle.gimple_core.specs.Operators.{op_of, kept}
use Rattle.gimple_core.proofs.NumberLemmas.{unsigned_product}
use Rattle.gimple_core.proofs.operators.multiply.Goals as goal

pub returns-then-signed : goal.returns-then-signed
unfolding op_of
returns-then-signed c =
    let left : FitsSigned w128 c.args.left = c.ranges.left in
    let right : FitsSigned w128 c.args.right = c.ranges.right in
    let product : FitsSigned w128 c.multiply_signed.result = search rules in
    (simp to_z-of_z at c.keep.ensures) ∙ ap (kept c.args.mode c.args.scalar) (simp to_z-of_z at c.multiply_signed.ensures)

pub returns-else-signed : goal.returns-else-signed
unfolding op_of
returns-else-signed c =
    let left : FitsSigned w128 c.args.left = c.ranges.left in
    let right : FitsSigned w128 c.args.right = c.ranges.right in
    let product : FitsSigned w128 c.multiply_unsigned.result = search rules in
    ap Ok (to_z-of_z w128 _ product ∙ (simp to_z-of_z at c.multiply_unsigned.ensures))
    ∙ sym (unsigned_product c.args.mode c.args.scalar c.args.left c.args.right (sym c.signed.ensures ∙ c.if-signed.false) c.requires.left c.requires.right)
