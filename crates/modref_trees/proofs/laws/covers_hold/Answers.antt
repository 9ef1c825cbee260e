use Rattle.modref_trees.proofs.Covering.{covers_hold}
use Rattle.modref_trees.proofs.laws.covers_hold.Goals as goal

pub returns : goal.returns
returns c = covers_hold
