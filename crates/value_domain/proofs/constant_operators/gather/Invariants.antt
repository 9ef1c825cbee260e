use Rattle.std.proofs.Common.{◌≡◌, drop, []}
use Rattle.lattice_parts.specs.Sets.{gathered}
use Rattle.value_domain.specs.Constants.{before}
use Rattle.value_domain.specs.Rules.{rule_constant}
use Rattle.value_domain.proofs.constant_operators.gather.Given as goal

abbrev pub invariant-loop-at : goal.invariant-loop-at
invariant-loop-at l = gathered before (rule_constant l.rule) (drop l.at l.left) l.right l.all.items ≡ gathered before (rule_constant l.rule) l.left l.right []
