use Rattle.body_values.proofs.ByChanges.{begin_is}
use Rattle.body_values.proofs.block_values.BlockValues.begin.Goals as goal

pub returns : goal.returns
returns c = begin_is c.self.inside.begin c.self.inside.changes c.args.self.now c.copy.result c.self.view_is c.copy.ensures
