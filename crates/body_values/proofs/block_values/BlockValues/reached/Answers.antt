use Rattle.std.proofs.Common.{◌≡◌, ◌∙◌, ap}
use Rattle.body_values.specs.Changed.{rows_by}
use Rattle.body_values.proofs.ByChanges.{reached_there, reached_past}
use Rattle.body_values.proofs.block_values.BlockValues.reached.Goals as goal

pub returns-then-changes-index : goal.returns-then-changes-index
returns-then-changes-index c =
    let rows : rows_by c.self.inside.begin c.as_slice-changes.result.now ≡ c.args.self.now = ap (rows_by c.self.inside.begin) c.as_slice-changes.ensures ∙ c.self.view_is in
    reached_past c.self.inside.begin c.as_slice-changes.result.now c.args.self.now c.args.index rows c.if-changes-index.true

pub returns : goal.returns
returns c =
    let rows : rows_by c.self.inside.begin c.as_slice-changes.result.now ≡ c.args.self.now = ap (rows_by c.self.inside.begin) c.as_slice-changes.ensures ∙ c.self.view_is in
    c.reached_through.ensures ∙ reached_there c.self.inside.begin c.as_slice-changes.result.now c.args.self.now c.args.index rows c.if-changes-index.false
