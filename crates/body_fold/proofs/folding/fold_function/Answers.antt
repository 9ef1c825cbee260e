use Rattle.std.proofs.Common.{◌≡◌, ◌∙◌, sym}
use Rattle.body_fold.specs.Links.{marked_blocks}
use Rattle.body_fold.proofs.Foldable.{is_folder, points_fit, are_numbered, blocks_checked, some_new, few_new, folded_so}
use Rattle.body_fold.proofs.folding.fold_function.Goals as goal

pub blocks-requires-clause-folder : goal.blocks-requires-clause-folder
blocks-requires-clause-folder c = is_folder c.folder_of-folder.result c.args.tables.now.program c.args.number c.args.function.now c.args.values.now c.folder_of-folder.ensures c.requires.foldable

pub blocks-requires-clause-fit : goal.blocks-requires-clause-fit
blocks-requires-clause-fit c = points_fit c.folder_of-folder.result c.args.tables.now.program c.args.number c.args.function.now c.args.values.now c.folder_of-folder.ensures c.requires.foldable

pub blocks-requires-clause-few : goal.blocks-requires-clause-few
blocks-requires-clause-few c = are_numbered c.folder_of-folder.result c.args.tables.now.program c.args.number c.args.function.now c.args.values.now c.folder_of-folder.ensures c.requires.foldable

pub blocks-requires-clause-passes : goal.blocks-requires-clause-passes
blocks-requires-clause-passes c = blocks_checked c.folder_of-folder.result c.args.tables.now.program c.args.number c.args.function.now c.args.values.now c.folder_of-folder.ensures c.requires.foldable

pub linked-requires-clause-some : goal.linked-requires-clause-some
linked-requires-clause-some c =
    some_new c.folder_of-folder.result c.args.tables.now.program c.args.number c.args.function.now c.args.values.now c.folder_of-folder.ensures c.requires.foldable c.as_slice-2.result.now (c.as_slice-2.ensures.value ∙ c.in_ok-all.ensures)

pub linked-requires-clause-few : goal.linked-requires-clause-few
linked-requires-clause-few c =
    few_new c.folder_of-folder.result c.args.tables.now.program c.args.number c.args.function.now c.args.values.now c.folder_of-folder.ensures c.requires.foldable c.as_slice-2.result.now (c.as_slice-2.ensures.value ∙ c.in_ok-all.ensures)

pub returns : goal.returns
returns c =
    let left : c.in_ok-kept.kept.items ≡ marked_blocks c.in_ok-marks.marks.items c.as_slice-2.result.now = c.in_ok-kept.ensures ∙ (λ i. marked_blocks (c.as_slice-3.ensures.value i) (sym c.as_slice-2.ensures.value i)) in
    folded_so c.folder_of-folder.result c.args.tables.now.program c.args.number c.args.function.now c.args.values.now c.folder_of-folder.ensures c.requires.foldable c.as_slice-2.result.now c.in_ok-kept.kept.items c.in_ok-marks.marks.items c.in_ok-folded.folded
    (c.as_slice-2.ensures.value ∙ c.in_ok-all.ensures) c.in_ok-marks.ensures left c.in_ok-folded.ensures
