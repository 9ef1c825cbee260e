use Rattle.std.proofs.Common.{◌≡◌, ◌∙◌, sym, true, FitsSigned}
use Rattle.std.specs.Int.{w128}
use Rattle.std.proofs.lemmas.Int.{to_z-of_z}
use Rattle.gimple_core.specs.Operators.{in_scalar}
use Rattle.gimple_lowered.proofs.WrapLemmas.{wrapped_same}
use Rattle.gimple_exec.proofs.values.wrapped.Goals as goal

pub returns-then-lies_in : goal.returns-then-lies_in
returns-then-lies_in c =
    let value : FitsSigned w128 c.args.value = c.ranges.value in
    let inside : in_scalar c.args.scalar c.args.value ≡ true = simp to_z-of_z at (sym c.lies_in.ensures ∙ c.if-lies_in.true) in
    simp to_z-of_z (sym (wrapped_same c.args.scalar c.args.value inside))
