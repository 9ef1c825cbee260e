use Rattle.std.proofs.Common.{◌≡◌, ◌++◌, drop}
use Rattle.lattice_parts.specs.Sets.{kept_members}
use Rattle.value_domain.specs.Rules.{passes}
use Rattle.value_domain.proofs.constant_operators.kept.Given as goal

abbrev pub invariant-loop-at : goal.invariant-loop-at
invariant-loop-at l = l.all.items ++ kept_members (passes l.test) (drop l.at l.constants) ≡ kept_members (passes l.test) l.constants
