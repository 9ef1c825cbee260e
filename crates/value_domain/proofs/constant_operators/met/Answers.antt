use Rattle.std.proofs.Common.{sym, ap, ◌∙◌}
use Rattle.lattice_parts.specs.Sets.{kept_members, has_by}
use Rattle.value_domain.specs.Constants.{before}
use Rattle.value_domain.specs.ConstantOperators.{vals_of}
use Rattle.value_domain.specs.AbsOperators.{vals_met}
use Rattle.value_domain.proofs.constant_operators.met.Goals as goal

pub returns-in_ok-all-in-Among-Among : goal.returns-in_ok-all-in-Among-Among
returns-in_ok-all-in-Among-Among c =
    let kept = c.in_ok-all-in-Among-Among.ensures ∙ (λ i. kept_members (λ d. has_by before d (c.as_slice-in-Among-Among.ensures i)) (c.as_slice.ensures i)) in
    c.set_of.ensures ∙ (ap (vals_of c.in-Among-Among.limit) kept ∙ (λ i. vals_met (sym c.in-Among-Among.is-0 i) (sym c.in-Among-Among.is-1 i)))
