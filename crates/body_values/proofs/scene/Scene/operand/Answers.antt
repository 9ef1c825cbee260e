use Rattle.body_values.proofs.Written.{good_value}
use Rattle.body_values.proofs.scene.Scene.operand.Goals as goal

pub returns-clause-good : goal.returns-clause-good
returns-clause-good c = good_value c.args.self.now c.args.row.now c.args.scalar c.args.operand.now _ c.known.ensures c.requires.fit c.in_ok-value.ensures
