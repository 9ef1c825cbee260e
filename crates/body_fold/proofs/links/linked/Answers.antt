use Rattle.std.proofs.Common.{length, ◌∙◌, ap}
use Rattle.graph_walk.specs.Walk.{listed}
use Rattle.body_fold.proofs.Linking.{ends_inside, marks_of}
use Rattle.body_fold.proofs.links.linked.Goals as goal

pub reached_in-requires-clause-ends : goal.reached_in-requires-clause-ends
reached_in-requires-clause-ends c =
    ends_inside c.args.blocks.now c.as_slice.result.now c.requires.some (ap listed c.as_slice.ensures.value ∙ c.in_ok-rows.ensures.rows) (ap length c.as_slice.ensures.value ∙ c.in_ok-rows.ensures.one_each)

pub returns : goal.returns
returns c =
    marks_of c.args.blocks.now c.as_slice.result.now c.in_ok-marks.marks.items (ap listed c.as_slice.ensures.value ∙ c.in_ok-rows.ensures.rows) (ap length c.as_slice.ensures.value ∙ c.in_ok-rows.ensures.one_each) c.in_ok-marks.ensures
