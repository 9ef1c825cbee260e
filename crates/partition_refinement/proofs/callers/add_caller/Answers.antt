use Rattle.std.proofs.Common.{refl, arith}
use Rattle.partition_refinement.proofs.Steps.{below_at, caller_step}
use Rattle.partition_refinement.proofs.callers.add_caller.Goals as goal

pub push-requires : goal.push-requires
push-requires c =
    let low = below_at _ c.args.row.now c.loop-other.other-index _ c.requires c.loop-other-test.true refl in
    let count = c.loop-other.invariant.count in
    omega (arith, low, count)

pub loop-other-preserved : goal.loop-other-preserved
loop-other-preserved c =
    let low = below_at _ c.args.row.now c.loop-other.other-index _ c.requires c.loop-other-test.true refl in
    let count = c.loop-other.invariant.count in
    caller_step c.args.callers.now c.args.item c.args.row.now c.loop-other.other-index _ c.loop-other.callers c.push.new.self c.loop-other.invariant c.loop-other-test.true refl (omega (arith, low, count)) c.in_ok-push.ensures
