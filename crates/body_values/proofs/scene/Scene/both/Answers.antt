use Rattle.body_values.proofs.Refined.{are_alike}
use Rattle.body_values.proofs.scene.Scene.both.Goals as goal

pub meet-requires : goal.meet-requires
meet-requires c = are_alike c.args.self.now c.args.scalar c.args.left.now c.args.right.now c.known.ensures c.requires.left c.requires.right
