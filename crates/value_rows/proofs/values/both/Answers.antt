use Rattle.value_rows.proofs.KeptLemmas.{kept_alike}
use Rattle.value_rows.proofs.values.both.Goals as goal

pub meet-requires : goal.meet-requires
meet-requires c = kept_alike c.args.scalar c.args.limits.now c.known.ensures c.args.first.now c.args.second.now c.requires.first c.requires.second
