use Rattle.std.proofs.Common.{arith, length, refl}
use Rattle.std.proofs.lemmas.List.{get_or_default}
use Rattle.partition_refinement.proofs.Steps.{member_step, put_size}
use Rattle.partition_refinement.proofs.partition.members_of.Goals as goal

pub push-requires : goal.push-requires
push-requires c =
    let low = c.requires.low c.loop-item.item c.loop-item-test.true in
    let value = get_or_default c.args.classes.now c.loop-item.item 0 c.loop-item.item c.loop-item-test.true in
    let count = c.loop-item.invariant.count in
    omega (arith, low, value, count, c.loop-item-test.true)

pub loop-item-preserved : goal.loop-item-preserved
loop-item-preserved c =
    let low = c.requires.low c.loop-item.item c.loop-item-test.true in
    let value = get_or_default c.args.classes.now c.loop-item.item 0 c.loop-item.item c.loop-item-test.true in
    let count = c.loop-item.invariant.count in
    record {
      members = member_step c.args.classes.now c.loop-item.item _ c.loop-item.members c.push.new.self c.loop-item.invariant.members refl c.loop-item-test.true (omega (arith, low, value, count, c.loop-item-test.true)) c.in_ok-push.ensures;
      count = put_size c.loop-item.members c.push.new.self _ _ (length c.args.classes.now) count c.in_ok-push.ensures;
    }
