use Rattle.std.proofs.Common.{sym, ◌∙◌, ap, subst}
use Rattle.gimple_ir.specs.Counts.{IsCountable}
use Rattle.gimple_core.specs.Sealed.{Sealed}
use Rattle.fold_rows.proofs.folds.accepted.Goals as goal

pub returns-in-Ok-accept : goal.returns-in-Ok-accept
returns-in-Ok-accept c = subst IsCountable (sym (ap (λ (p : Sealed). p.program) c.seal_as.ensures ∙ (c.into_program.ensures.same ∙ c.in-Ok-accept.ensures.same))) c.in-Ok.ensures.countable
