use Rattle.body_values.specs.Scenes.{body_in, FitsIn}
use Rattle.body_values.proofs.ByChanges.{AreChanges}
use Rattle.body_values.proofs.scene.Scene.changes.Given as goal

abbrev pub invariant-loop-index : goal.invariant-loop-index
invariant-loop-index l = FitsIn l.self l.row × AreChanges (body_in l.self) l.block l.index l.body l.begin l.row l.changes
