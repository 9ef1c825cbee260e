use Rattle.std.proofs.Common.{◌≡◌, ◌∙◌, List, length, ap, sym, subst}
use Rattle.gimple_ir.specs.declared.block.Block.{Block}
use Rattle.block_flow.specs.Branches.{branches_of}
use Rattle.block_flow.specs.System.{AreFew}
use Rattle.value_domain.specs.declared.abs_val.AbsVal.{AbsVal}
use Rattle.body_values.specs.Flow.{entry_row}
use Rattle.body_values.specs.Setting.{IsSceneOf}
use Rattle.body_values.proofs.Settled.{scene_is, carried_of, entry_passes, are_few, found_of}
use Rattle.body_values.proofs.values.values_with.Goals as goal

pub rows_of-requires-clause-carried : goal.rows_of-requires-clause-carried
rows_of-requires-clause-carried g c =
    let scene : IsSceneOf c.scene_of-scene.result c.args.program.now c.args.number c.args.function.now c.args.facts.now c.args.limits =
    scene_is c.scene_of-scene.result c.args.program.now c.args.number c.args.function.now c.args.facts.now c.args.limits _ _ _ _ _ _ _ c.scene_of-scene.ensures c.requires.known c.requires.named c.in_ok-locals.ensures c.as_slice.ensures c.in_ok-registers.ensures c.in_ok-loads.ensures c.as_slice-2.ensures in
    carried_of c.scene_of-scene.result c.args.program.now c.args.number c.args.function.now c.args.facts.now c.args.limits scene c.requires.given

pub rows_of-requires-clause-few : goal.rows_of-requires-clause-few
rows_of-requires-clause-few g c =
    subst (λ (bs : List Block). AreFew bs (length (branches_of bs))) (sym c.as_slice-4.ensures) (are_few c.args.function.now.blocks (length (branches_of c.args.function.now.blocks)) c.requires.given.size c.requires.given.branches)

pub rows_of-requires-clause-entry : goal.rows_of-requires-clause-entry
rows_of-requires-clause-entry g c =
    let scene : IsSceneOf c.scene_of-scene.result c.args.program.now c.args.number c.args.function.now c.args.facts.now c.args.limits =
    scene_is c.scene_of-scene.result c.args.program.now c.args.number c.args.function.now c.args.facts.now c.args.limits _ _ _ _ _ _ _ c.scene_of-scene.ensures c.requires.known c.requires.named c.in_ok-locals.ensures c.as_slice.ensures c.in_ok-registers.ensures c.in_ok-loads.ensures c.as_slice-2.ensures in
    let entry : c.in_ok-entry.entry ≡ entry_row c.args.function.now c.args.facts.now.formals c.args.limits.size c.args.limits.ends =
    c.in_ok-entry.ensures ∙ ap (λ (fs : List AbsVal). entry_row c.args.function.now fs c.args.limits.size c.args.limits.ends) c.as_slice-3.ensures in
    entry_passes c.scene_of-scene.result c.args.program.now c.args.number c.args.function.now c.args.facts.now c.args.limits c.in_ok-entry.entry scene c.requires.given entry

pub returns : goal.returns
returns g c =
    let scene : IsSceneOf c.scene_of-scene.result c.args.program.now c.args.number c.args.function.now c.args.facts.now c.args.limits =
    scene_is c.scene_of-scene.result c.args.program.now c.args.number c.args.function.now c.args.facts.now c.args.limits _ _ _ _ _ _ _ c.scene_of-scene.ensures c.requires.known c.requires.named c.in_ok-locals.ensures c.as_slice.ensures c.in_ok-registers.ensures c.in_ok-loads.ensures c.as_slice-2.ensures in
    let entry : c.in_ok-entry.entry ≡ entry_row c.args.function.now c.args.facts.now.formals c.args.limits.size c.args.limits.ends =
    c.in_ok-entry.ensures ∙ ap (λ (fs : List AbsVal). entry_row c.args.function.now fs c.args.limits.size c.args.limits.ends) c.as_slice-3.ensures in
    found_of c.scene_of-scene.result c.args.program.now c.args.number c.args.function.now c.args.facts.now c.args.limits c.in_ok-registers.registers c.as_slice-4.result.now c.in_ok-entry.entry c.in_ok-rows.rows
    scene c.in_ok-registers.ensures c.as_slice-4.ensures entry c.in_ok-rows.ensures
