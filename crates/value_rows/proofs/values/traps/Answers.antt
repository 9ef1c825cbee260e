use Rattle.value_rows.proofs.KeptLemmas.{allowed_alike, kept_alike}
use Rattle.value_rows.proofs.values.traps.Goals as goal

pub may_trap-requires : goal.may_trap-requires
may_trap-requires c = record {
  allowed = (c.args.scalar, allowed_alike c.args.op c.args.scalar c.requires.number, c.requires.second.of);
  left_of = c.requires.first.of;
  alike = kept_alike c.args.scalar c.args.limits.now c.known.ensures c.args.first.now c.args.second.now c.requires.first c.requires.second;
}
