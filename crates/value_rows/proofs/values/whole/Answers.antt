use Rattle.std.proofs.Common.{subst, sym}
use Rattle.value_rows.specs.Kept.{IsKept}
use Rattle.value_rows.proofs.KeptLemmas.{top_kept}
use Rattle.value_rows.proofs.values.whole.Goals as goal

pub returns-clause-kept : goal.returns-clause-kept
returns-clause-kept c = subst (IsKept c.args.scalar c.args.limits.now) (sym c.top.ensures) (top_kept c.args.limits.now c.known.ensures c.args.scalar)
