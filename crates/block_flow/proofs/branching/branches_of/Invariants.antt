use Rattle.std.proofs.Common.{◌≡◌, ◌++◌, drop}
use Rattle.block_flow.specs.Branches.{branches_from}
use Rattle.block_flow.proofs.branching.branches_of.Given as goal

abbrev pub invariant-loop-source : goal.invariant-loop-source
invariant-loop-source l = l.found.items ++ branches_from l.blocks l.source (drop l.source l.blocks) ≡ branches_from l.blocks 0 l.blocks
