use Rattle.std.proofs.Common.{FitsSigned, rules, ◌∙◌, ap}
use Rattle.std.specs.Int.{w128}
use Rattle.std.proofs.lemmas.Int.{to_z-of_z}
use Rattle.gimple_core.specs.Operators.{wrapped}
use Rattle.gimple_core.proofs.NumberLemmas.{wrapped_again}
use Rattle.gimple_core.proofs.operators.multiply_unsigned.Goals as goal

pub returns : goal.returns
returns c =
    let outer : FitsSigned w128 c.wrap.result = search rules in
    let inner : FitsSigned w128 c.from.result = search rules in
    to_z-of_z w128 _ outer ∙ (simp to_z-of_z at c.wrap.ensures.value) ∙ ap (wrapped c.args.scalar) c.from.ensures ∙ wrapped_again _ _
