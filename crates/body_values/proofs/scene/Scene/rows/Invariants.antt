use Rattle.body_values.proofs.ByChanges.{AreRowsBefore}
use Rattle.body_values.proofs.scene.Scene.rows.Given as goal

abbrev pub invariant-loop-block : goal.invariant-loop-block
invariant-loop-block l = AreRowsBefore l.self l.blocks l.block-iterator.a.rest.now l.fn.begins.items l.block-iterator.b.rest.items l.rows
