use Rattle.std.proofs.Common.{◌≡◌, ◌++◌, map, drop}
use Rattle.gimple_ir.specs.declared.block.Case.{Case}
use Rattle.block_flow.proofs.branching.switch_labels.Given as goal

abbrev pub invariant-loop-at : goal.invariant-loop-at
invariant-loop-at l = l.labels.items ++ map (λ (c : Case). c.target) (drop l.at l.cases) ≡ map (λ (c : Case). c.target) l.cases
