use Rattle.modref_trees.proofs.Covering.{everything_holds}
use Rattle.modref_trees.proofs.laws.everything_holds.Goals as goal

pub returns : goal.returns
returns c = everything_holds
