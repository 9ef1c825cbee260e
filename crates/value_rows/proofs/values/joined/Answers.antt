use Rattle.value_rows.proofs.KeptLemmas.{kept_alike}
use Rattle.value_rows.proofs.values.joined.Goals as goal

pub join-requires : goal.join-requires
join-requires c = kept_alike c.args.scalar c.args.limits.now c.known.ensures c.args.first.now c.args.second.now c.requires.first c.requires.second
