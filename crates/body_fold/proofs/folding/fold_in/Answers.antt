use Rattle.std.proofs.Common.{◌≡◌, ◌<◌, List, length, sym, ◌∙◌, ap, subst, Some, slice_get}
use Rattle.gimple_ir.specs.declared.program.Function.{Function}
use Rattle.gimple_ir.specs.declared.program.Program.{Program}
use Rattle.body_values.proofs.Settled.{numbered}
use Rattle.body_fold.proofs.Counted.{fold_no_larger}
use Rattle.body_fold.proofs.Foldable.{number_within, foldable}
use Rattle.body_fold.proofs.folding.fold_in.Goals as goal

pub bounds-as_slice-function : goal.bounds-as_slice-function
bounds-as_slice-function c =
    let within : c.args.function < length c.args.tables.now.program.program.functions = number_within c.args.tables.now.program c.args.function c.args.values.now c.requires.values in
    subst (λ (fs : List Function). c.args.function < length fs) (sym (c.as_slice.ensures ∙ ap (λ (p : Program). p.functions) c.program-program.ensures.same)) within

pub fold_function-requires : goal.fold_function-requires
fold_function-requires c =
    let within : c.args.function < length c.args.tables.now.program.program.functions = number_within c.args.tables.now.program c.args.function c.args.values.now c.requires.values in
    let there : slice_get c.args.tables.now.program.program.functions c.args.function ≡ Some c.index-as_slice-function.result =
    numbered c.program-program.result.now c.args.tables.now.program.program c.as_slice.result.now c.args.function c.index-as_slice-function.result c.program-program.ensures.same c.as_slice.ensures within c.index-as_slice-function.is in
    record { foldable = foldable c.args.tables.now.program c.args.function c.index-as_slice-function.result c.args.values.now there c.program-program.ensures.accepted c.requires.globals c.requires.size c.requires.values }

pub returns-clause-counts : goal.returns-clause-counts
returns-clause-counts c = fold_no_larger c.args.tables.now.program c.args.function c.args.values.now c.in_ok-folded.folded c.in_ok-folded.ensures
