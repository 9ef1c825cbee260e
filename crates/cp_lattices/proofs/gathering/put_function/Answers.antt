use Rattle.std.proofs.Common.{◌≡◌, Some, refl, ◌∙◌, slice_get}
use Rattle.body_values.proofs.Settled.{numbered}
use Rattle.cp_lattices.proofs.FunctionGifts.{is_caller, points_fit, adds, few_blocks}
use Rattle.cp_lattices.proofs.gathering.put_function.Goals as goal

pub put_all-requires-clause-caller : goal.put_all-requires-clause-caller
put_all-requires-clause-caller g c =
    let there : slice_get c.args.tables.now.program.program.functions c.args.number ≡ Some c.index-as_slice-number.result =
    numbered c.program.result.now c.args.tables.now.program.program c.as_slice.result.now c.args.number c.index-as_slice-number.result c.program.ensures.same c.as_slice.ensures c.requires.number c.index-as_slice-number.is in
    let locals : c.in_ok-locals.locals ≡ c.index-as_slice-number.result.locals = c.in_ok-locals.ensures ∙ c.as_slice-2.ensures in
    is_caller c.scene_in.result c.args.tables.now.program c.args.tables.now.size c.args.number c.index-as_slice-number.result c.args.symbols.now c.in_ok-values.values c.in_ok-locals.locals c.empty-loads.result c.scene_in.ensures locals c.empty-loads.ensures there
    c.requires.countable c.in_ok-values.ensures _ refl refl refl

pub put_all-requires-clause-fit : goal.put_all-requires-clause-fit
put_all-requires-clause-fit g c =
    let there : slice_get c.args.tables.now.program.program.functions c.args.number ≡ Some c.index-as_slice-number.result =
    numbered c.program.result.now c.args.tables.now.program.program c.as_slice.result.now c.args.number c.index-as_slice-number.result c.program.ensures.same c.as_slice.ensures c.requires.number c.index-as_slice-number.is in
    let locals : c.in_ok-locals.locals ≡ c.index-as_slice-number.result.locals = c.in_ok-locals.ensures ∙ c.as_slice-2.ensures in
    points_fit c.scene_in.result c.args.tables.now.program c.args.tables.now.size c.args.number c.index-as_slice-number.result c.args.symbols.now c.in_ok-values.values c.in_ok-locals.locals c.empty-loads.result c.scene_in.ensures locals c.empty-loads.ensures there
    c.requires.countable c.in_ok-values.ensures

pub put_all-requires-clause-few : goal.put_all-requires-clause-few
put_all-requires-clause-few g c =
    few_blocks c.args.tables.now.program.program c.args.number c.index-as_slice-number.result
    (numbered c.program.result.now c.args.tables.now.program.program c.as_slice.result.now c.args.number c.index-as_slice-number.result c.program.ensures.same c.as_slice.ensures c.requires.number c.index-as_slice-number.is) c.requires.countable

pub returns : goal.returns
returns g c =
    let there : slice_get c.args.tables.now.program.program.functions c.args.number ≡ Some c.index-as_slice-number.result =
    numbered c.program.result.now c.args.tables.now.program.program c.as_slice.result.now c.args.number c.index-as_slice-number.result c.program.ensures.same c.as_slice.ensures c.requires.number c.index-as_slice-number.is in
    let locals : c.in_ok-locals.locals ≡ c.index-as_slice-number.result.locals = c.in_ok-locals.ensures ∙ c.as_slice-2.ensures in
    adds c.scene_in.result c.args.tables.now.program c.args.tables.now.size c.args.number c.index-as_slice-number.result c.args.symbols.now c.in_ok-values.values c.in_ok-locals.locals c.empty-loads.result c.scene_in.ensures locals c.empty-loads.ensures there
    c.requires.countable c.in_ok-values.ensures c.args.gifts.now c.put_all.new.gifts c.in_ok-put_all.ensures
