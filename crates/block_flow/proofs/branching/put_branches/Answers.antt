use Rattle.std.proofs.Common.{rules, ◌≡◌, ◌<◌, ◌++◌, ◌∷◌, [], length}
use Rattle.block_flow.proofs.BranchCounts.{next_branch}
use Rattle.block_flow.proofs.branching.put_branches.Goals as goal

pub loop-slot-preserved : goal.loop-slot-preserved
loop-slot-preserved c =
    let within : c.loop-slot.slot < length c.args.labels.now = search rules in
    let pushed : c.push.new.self.items ≡ c.loop-slot.found.items ++ c.branch-blocks.result ∷ [] = search rules in
    next_branch c.args.blocks.now c.args.source c.loop-slot.slot c.args.labels.now _ c.branch-blocks.result c.loop-slot.found.items _ _ within c.branch-blocks.ensures pushed c.loop-slot.invariant
