use Rattle.std.proofs.Common.{arith, get_or, refl}
use Rattle.std.proofs.lemmas.List.Elements.{Contains-get_or}
use Rattle.partition_refinement.proofs.Steps.{set_step}
use Rattle.partition_refinement.proofs.partition.set_all.Goals as goal

pub index_mut-requires : goal.index_mut-requires
index_mut-requires c =
    let low = c.requires (get_or c.args.items.now c.loop-item.item-index 0) (Contains-get_or c.args.items.now c.loop-item.item-index 0 c.loop-item-test.true) in
    let count = c.loop-item.invariant.count in
    omega (arith, low, count, c.loop-item.classes.ok.0)

pub loop-item-preserved : goal.loop-item-preserved
loop-item-preserved c =
    let low = c.requires (get_or c.args.items.now c.loop-item.item-index 0) (Contains-get_or c.args.items.now c.loop-item.item-index 0 c.loop-item-test.true) in
    let count = c.loop-item.invariant.count in
    set_step c.args.classes.now.items c.args.items.now c.args.class c.loop-item.item-index _ c.loop-item.classes.items _ c.loop-item.invariant c.loop-item-test.true refl (omega (arith, low, count)) refl
