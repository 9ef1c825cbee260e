use Rattle.std.proofs.Common.{arith, Contains, sym, subst, ◌∙◌}
use Rattle.partition_refinement.specs.Splitting.{IsRegarded}
use Rattle.partition_refinement.proofs.Regarding.{next_more}
use Rattle.partition_refinement.proofs.splitting.move_all.Goals as goal

pub move_out-requires : goal.move_out-requires
move_out-requires c = λ x d.
    let low = c.requires c.loop-number.number x (subst (λ l. Contains l x) c.list.ensures d) in
    let count = c.loop-number.invariant.count in
    omega (arith, low, count)

pub loop-number-preserved : goal.loop-number-preserved
loop-number-preserved c = record {
  count = c.in_ok-step.ensures.count ∙ c.loop-number.invariant.count;
  next = λ rows regarded. next_more rows c.args.partition.now c.loop-number.partition c.list.result.now c.move_out.new.self (c.loop-number.invariant.next rows regarded) c.in_ok-step.ensures (subst (IsRegarded rows c.args.partition.now) (sym c.list.ensures) (regarded c.loop-number.number));
}
