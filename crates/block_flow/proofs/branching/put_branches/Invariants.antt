use Rattle.std.proofs.Common.{◌≡◌, ◌++◌, drop}
use Rattle.block_flow.specs.Branches.{branches_to}
use Rattle.block_flow.proofs.branching.put_branches.Given as goal

abbrev pub invariant-loop-slot : goal.invariant-loop-slot
invariant-loop-slot l = l.found.items ++ branches_to l.blocks l.source l.slot (drop l.slot l.labels) ≡ l.fn.found.items ++ branches_to l.blocks l.source 0 l.labels
