use Rattle.std.proofs.Common.{◌≡◌, ◌∙◌, ap}
use Rattle.body_values.specs.Changed.{rows_by}
use Rattle.body_values.proofs.ByChanges.{value_there, value_past}
use Rattle.body_values.proofs.block_values.BlockValues.at.Goals as goal

pub returns-then-changes-index : goal.returns-then-changes-index
returns-then-changes-index c =
    let rows : rows_by c.self.inside.begin c.as_slice-changes.result.now ≡ c.args.self.now = ap (rows_by c.self.inside.begin) c.as_slice-changes.ensures ∙ c.self.view_is in
    value_past c.self.inside.begin c.as_slice-changes.result.now c.args.self.now c.args.index c.args.place rows c.if-changes-index.true

pub returns : goal.returns
returns c =
    let rows : rows_by c.self.inside.begin c.as_slice-changes.result.now ≡ c.args.self.now = ap (rows_by c.self.inside.begin) c.as_slice-changes.ensures ∙ c.self.view_is in
    c.value_through.ensures ∙ value_there c.self.inside.begin c.as_slice-changes.result.now c.args.self.now c.args.index c.args.place rows c.if-changes-index.false
