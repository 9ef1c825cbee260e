use Rattle.std.proofs.Common.{◌∙◌}
use Rattle.gimple_tokens.proofs.Runs.{turned}
use Rattle.gimple_tokens.proofs.front.left_after.Goals as goal

pub loop-turn-preserved : goal.loop-turn-preserved
loop-turn-preserved c = rw c.past-rest.ensures (c.loop-turn.invariant ∙ turned c.args.count c.loop-turn._turn c.loop-turn.rest.now c.loop-turn-test.true)
