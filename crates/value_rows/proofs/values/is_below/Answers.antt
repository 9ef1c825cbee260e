use Rattle.value_rows.proofs.KeptLemmas.{kept_alike}
use Rattle.value_rows.proofs.values.is_below.Goals as goal

pub leq-requires : goal.leq-requires
leq-requires c = kept_alike c.args.scalar c.args.limits.now c.known.ensures c.args.first.now c.args.second.now c.requires.first c.requires.second
