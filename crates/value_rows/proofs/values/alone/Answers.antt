use Rattle.value_rows.proofs.KeptLemmas.{kept_ok, alone_kept}
use Rattle.value_rows.proofs.values.alone.Goals as goal

pub returns-clause-kept : goal.returns-clause-kept
returns-clause-kept c = kept_ok c.args.scalar c.args.limits.now c.exactly.result _ (alone_kept c.args.limits.now c.known.ensures c.args.scalar _) c.exactly.ensures
