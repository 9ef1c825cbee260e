use Rattle.std.proofs.Common.{◌≡◌, ◌++◌, drop}
use Rattle.lattice_parts.specs.Sets.{kept_members, has_by}
use Rattle.value_domain.specs.Constants.{before}
use Rattle.value_domain.proofs.constant_operators.common.Given as goal

abbrev pub invariant-loop-at : goal.invariant-loop-at
invariant-loop-at l = l.all.items ++ kept_members (λ c. has_by before c l.right) (drop l.at l.left) ≡ kept_members (λ c. has_by before c l.right) l.left
