use Rattle.std.proofs.Common.{rules, arith, ◌≡◌, ◌<◌, ◌≤◌, length, sym, ◌∙◌, ap, Some, slice_get}
use Rattle.gimple_ir.specs.declared.block.Block.{Block}
use Rattle.block_flow.proofs.PointLemmas.{no_point, stands_there, there_fits, at_point, few_first}
use Rattle.block_flow.proofs.solving.value_at.Goals as goal

pub returns-then-place-blocks : goal.returns-then-place-blocks
returns-then-place-blocks g c =
    let past : length c.args.blocks.now ≤ c.args.block = search rules in
    no_point (g.T.BodyAnalysis.steps c.args.analysis.now) c.args.blocks.now c.args.begins.now c.args.block c.args.index c.requires.begins.one_each past

pub carry-requires-clause-fits : goal.carry-requires-clause-fits
carry-requires-clause-fits g c =
    let within : c.args.block < length c.args.blocks.now = search rules in
    let one : length c.args.begins.now ≡ length c.args.blocks.now = c.requires.begins.one_each in
    let from : slice_get c.args.begins.now c.args.block ≡ Some c.index-begins-place.result = stands_there c.args.begins.now c.args.block c.index-begins-place.result (omega (arith, within, one)) c.index-begins-place.is in
    there_fits g.T.Value.Lattice.fits g.T.Value.Lattice.below (g.T.BodyAnalysis.kind c.args.analysis.now) (g.T.BodyAnalysis.steps c.args.analysis.now) c.args.blocks.now c.args.begins.now c.requires.begins c.args.block c.index-begins-place.result within from

pub carry-requires-clause-few : goal.carry-requires-clause-few
carry-requires-clause-few g c =
    let within : c.args.block < length c.args.blocks.now = search rules in
    let block : slice_get c.args.blocks.now c.args.block ≡ Some c.index-blocks-place.result = stands_there c.args.blocks.now c.args.block c.index-blocks-place.result within c.index-blocks-place.is in
    few_first c.args.index c.as_slice.result.now c.first_of-body.result.now c.index-blocks-place.result.body c.first_of-body.ensures (c.as_slice.ensures ∙ ap (λ (b : Block). b.body) (sym c.index-blocks-place.is)) (c.requires.few.bodies_few c.args.block c.index-blocks-place.result block)

pub returns : goal.returns
returns g c =
    let within : c.args.block < length c.args.blocks.now = search rules in
    let one : length c.args.begins.now ≡ length c.args.blocks.now = c.requires.begins.one_each in
    let block : slice_get c.args.blocks.now c.args.block ≡ Some c.index-blocks-place.result = stands_there c.args.blocks.now c.args.block c.index-blocks-place.result within c.index-blocks-place.is in
    let from : slice_get c.args.begins.now c.args.block ≡ Some c.index-begins-place.result = stands_there c.args.begins.now c.args.block c.index-begins-place.result (omega (arith, within, one)) c.index-begins-place.is in
    at_point (g.T.BodyAnalysis.steps c.args.analysis.now) c.args.blocks.now c.args.begins.now c.args.block c.args.index c.index-blocks-place.result c.index-begins-place.result c.as_slice.result.now c.first_of-body.result.now c.carry.result block from (c.as_slice.ensures ∙ ap (λ (b : Block). b.body) (sym c.index-blocks-place.is)) c.first_of-body.ensures c.carry.ensures.after
