use Rattle.std.proofs.Common.{◌≡◌, ◌<◌, ◌^◌, Some, slice_get, subst}
use Rattle.std.proofs.lemmas.List.Elements.{All-get_or}
use Rattle.std.proofs.lemmas.Option.{get_or_from_slice_get}
use Rattle.gimple_ir.specs.declared.program.Function.{Function}
use Rattle.gimple_ir.specs.Size.{branches_of_function}
use Rattle.body_values.proofs.Settled.{numbered}
use Rattle.fold_rows.proofs.Folding.{of_function, facts_fit}
use Rattle.fold_rows.proofs.folds.folded_function.Goals as goal

pub values_of-requires-clause-branches : goal.values_of-requires-clause-branches
values_of-requires-clause-branches g c =
    let there : slice_get c.args.program.now.program.functions c.args.number ≡ Some c.index-as_slice-number.result =
    numbered c.program-source.result.now c.args.program.now.program c.as_slice.result.now c.args.number c.index-as_slice-number.result c.program-source.ensures.same c.as_slice.ensures c.requires.within c.index-as_slice-number.is in
    let few = All-get_or (λ (f : Function). branches_of_function f < 2 ^ 32) c.args.program.now.program.functions c.args.number c.index-as_slice-number.result c.requires.within c.requires.countable.branches in
    of_function (λ (f : Function). branches_of_function f < 2 ^ 32) c.args.program.now.program c.args.number c.index-as_slice-number.result there
    (subst (λ (f : Function). branches_of_function f < 2 ^ 32) (get_or_from_slice_get c.args.program.now.program.functions c.args.number c.index-as_slice-number.result c.index-as_slice-number.result there) few)

pub values_of-requires-clause-facts : goal.values_of-requires-clause-facts
values_of-requires-clause-facts g c =
    let there : slice_get c.args.program.now.program.functions c.args.number ≡ Some c.index-as_slice-number.result =
    numbered c.program-source.result.now c.args.program.now.program c.as_slice.result.now c.args.number c.index-as_slice-number.result c.program-source.ensures.same c.as_slice.ensures c.requires.within c.index-as_slice-number.is in
    facts_fit c.args.program.now.program c.args.number c.index-as_slice-number.result c.in_ok-facts.facts 8 there c.in_ok-facts.ensures.fit
