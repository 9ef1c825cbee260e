use Rattle.std.proofs.Common.{rules, ◌≡◌, ◌+ℤ◌, FitsSigned, w64}
use Rattle.std.specs.Int.{w128}
use Rattle.std.proofs.lemmas.Int.{to_z-of_z}
use Rattle.gimple_ir.specs.declared.scalar.Scalar.TheVariants.{I64}
use Rattle.gimple_ir.specs.declared.operand.Base.TheVariants.{Variable}
use Rattle.gimple_core.specs.Operators.{wrapped}
use Rattle.gimple_core.specs.State.{offset_in}
use Rattle.body_fold.proofs.places.place_in.Goals as goal

pub returns-clause-place : goal.returns-clause-place
returns-clause-place c =
    let fits : FitsSigned w128 c.offset_from.result = search rules in
    let offset : c.offset_from.result ≡ wrapped I64 (c.args.start +ℤ offset_in c.args.offset) =
    (let start : FitsSigned w64 c.args.start = c.ranges.start in let by : FitsSigned w128 c.args.offset = c.ranges.offset in simp to_z-of_z at c.offset_from.ensures.value) in
    simp to_z-of_z (λ i. record { base = Variable (c.in_ok-copy.ensures i); offset = offset i })
