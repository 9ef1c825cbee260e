use Rattle.body_values.proofs.Refined.{refined_good}
use Rattle.body_values.proofs.scene.Scene.left_of.Goals as goal

pub returns-clause-good : goal.returns-clause-good
returns-clause-good c = refined_good c.args.self.now c.args.cmp c.args.scalar c.args.side.now c.args.against.now _ c.known.ensures c.requires.allowed c.requires.side c.requires.against c.in_ok-value.ensures
