use Rattle.std.proofs.Common.{map, length, ◌∙◌}
use Rattle.partition_refinement.proofs.Regarding.{kept_next, below_as}
use Rattle.partition_refinement.proofs.splitting.settle.Goals as goal

pub loop-round-preserved : goal.loop-round-preserved
loop-round-preserved c = record {
  count = c.in_ok-work-2.ensures.count ∙ c.loop-round.invariant.count;
  kept = λ first kept. kept_next first (map (λ row. row.items) c.args.rows.now) c.loop-round.partition c.follow.new.partition (below_as (map (λ row. row.items) c.args.rows.now) (length c.args.partition.now) (length first) kept.count c.requires.items) (c.loop-round.invariant.kept first kept) c.in_ok-work-2.ensures;
}
