use Rattle.std.proofs.Common.{FitsSigned, rules, ◌+ℤ◌, ◌≡◌, ◌∙◌, ap, w64, ℤ}
use Rattle.std.specs.Int.{w128}
use Rattle.std.proofs.lemmas.Int.{to_z-of_z}
use Rattle.gimple_ir.specs.declared.scalar.Scalar.TheVariants.{I64}
use Rattle.gimple_core.specs.Operators.{wrapped}
use Rattle.gimple_lowered.proofs.numbers.moved.Goals as goal

pub returns : goal.returns
returns c =
    let offset : FitsSigned w64 c.args.offset = c.ranges.offset in
    let by : FitsSigned w128 c.args.by = c.ranges.by in
    let wide : FitsSigned w128 c.wrap.result = search rules in
    let narrow : FitsSigned w64 c.wrap.result = search rules in
    let from : c.from.result ≡ c.args.offset = simp to_z-of_z at c.from.ensures in
    let inner : FitsSigned w128 c.from.result = search rules in
    let sum : FitsSigned w128 (c.from.result +ℤ c.args.by) = search rules in
    simp to_z-of_z ((simp to_z-of_z at c.wrap.ensures.value) ∙ ap (λ (z : ℤ). wrapped I64 (z +ℤ c.args.by)) from)
