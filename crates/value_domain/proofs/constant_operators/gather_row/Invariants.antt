use Rattle.std.proofs.Common.{◌≡◌, drop}
use Rattle.lattice_parts.specs.Sets.{mapped}
use Rattle.value_domain.specs.Constants.{before}
use Rattle.value_domain.specs.Rules.{rule_constant}
use Rattle.value_domain.proofs.constant_operators.gather_row.Given as goal

abbrev pub invariant-loop-at : goal.invariant-loop-at
invariant-loop-at l = mapped before (rule_constant l.rule l.left) (drop l.at l.right) l.all.items ≡ mapped before (rule_constant l.rule l.left) l.fn.right l.fn.all.items
