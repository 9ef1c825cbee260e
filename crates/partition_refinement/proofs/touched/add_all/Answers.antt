use Rattle.std.proofs.Common.{refl}
use Rattle.partition_refinement.proofs.Steps.{insert_step}
use Rattle.partition_refinement.proofs.touched.add_all.Goals as goal

pub loop-item-preserved : goal.loop-item-preserved
loop-item-preserved c = insert_step c.args.more.now c.loop-item.item-index _ c.args.items.now.keys c.loop-item.items.keys c.insert.new.self.keys c.loop-item.invariant c.loop-item-test.true refl c.in_ok-insert.ensures.keys
