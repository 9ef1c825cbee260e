use Rattle.std.proofs.Common.{rules, ◌-◌}
use Rattle.body_values.proofs.GivenFirst.{step_back}
use Rattle.body_values.proofs.load_table.first_values.Goals as goal

-- src/load_table.rt:59:5
pub loop-at-preserved : goal.loop-at-preserved
loop-at-preserved c =
    (search rules, step_back c.args.facts.now (c.loop-at.at - 1) c.loop-at.at c.index-facts-at.result c.args.function c.loop-at.values.entries c.put.new.values.entries (search rules) c.loop-at.invariant.0 c.index-facts-at.is c.in_ok-put.ensures c.loop-at.invariant.1)
