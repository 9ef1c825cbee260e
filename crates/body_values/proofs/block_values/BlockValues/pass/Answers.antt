use Rattle.std.proofs.Common.{rules, ◌≡◌, Some, None, slice_get}
use Rattle.body_values.proofs.ByChanges.{passed_is, passed_end}
use Rattle.body_values.proofs.block_values.BlockValues.pass.Goals as goal

pub returns-in-Some-clause-ok : goal.returns-in-Some-clause-ok
returns-in-Some-clause-ok c =
    let there : slice_get c.self.inside.changes c.args.index ≡ Some c.in-Some.change.now = search rules in
    passed_is c.self.inside.begin c.args.row.now c.apply.new.row c.self.inside.changes c.args.self.now c.args.index c.in-Some.change.now c.apply.result c.self.view_is there c.requires c.apply.ensures.ok

pub returns-in-None-clause-ok : goal.returns-in-None-clause-ok
returns-in-None-clause-ok c =
    let there : slice_get c.self.inside.changes c.args.index ≡ None = search rules in
    passed_end c.self.inside.begin c.self.inside.changes c.args.self.now c.args.index c.self.view_is there
