use Rattle.std.proofs.Common.{FitsSigned, rules, ap, ◌∙◌, ◌+ℤ◌}
use Rattle.std.specs.Int.{w128, w64}
use Rattle.std.proofs.lemmas.Int.{to_z-of_z}
use Rattle.gimple_core.specs.Operators.{wrapped}
use Rattle.gimple_ir.specs.declared.scalar.Scalar.TheVariants.{I64}
use Rattle.value_domain.proofs.constant_operators.moved_offset.Goals as goal

pub returns : goal.returns
returns c =
    let b : FitsSigned w128 c.args.by = c.ranges.by in
    let o : FitsSigned w64 c.args.offset = c.ranges.offset in
    let start = simp to_z-of_z at c.from.ensures in
    let p : FitsSigned w128 c.plus.result = search rules in
    let q : FitsSigned w128 c.from.result = search rules in
    let r : FitsSigned w128 c.wrap.result = search rules in
    let s : FitsSigned w64 c.wrap.result = search rules in
    let whole = simp to_z-of_z at c.wrap.ensures.value in
    let sum = simp to_z-of_z at c.plus.ensures in
    simp to_z-of_z (whole ∙ ap (wrapped I64) (sum ∙ ap (λ z. z +ℤ c.args.by) start))
