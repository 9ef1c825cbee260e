use Rattle.std.proofs.Common.{refl, get_or}
use Rattle.std.proofs.lemmas.List.Elements.{Contains-get_or}
use Rattle.partition_refinement.proofs.Steps.{callers_step}
use Rattle.partition_refinement.proofs.touched.add_callers.Goals as goal

pub list-requires : goal.list-requires
list-requires c = c.requires (get_or c.args.called.now c.loop-item.item-index 0) (Contains-get_or c.args.called.now c.loop-item.item-index 0 c.loop-item-test.true)

pub loop-item-preserved : goal.loop-item-preserved
loop-item-preserved c = callers_step c.args.callers.now c.args.called.now c.loop-item.item-index _ c.args.items.now.keys c.loop-item.items.keys c.add_all.new.items.keys c.list.result.now c.loop-item.invariant c.loop-item-test.true refl c.list.ensures c.in_ok-add_all.ensures
