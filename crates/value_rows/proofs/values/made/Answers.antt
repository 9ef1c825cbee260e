use Rattle.value_rows.proofs.KeptLemmas.{allowed_alike, kept_ok, made_kept}
use Rattle.value_rows.proofs.values.made.Goals as goal

pub abs_op-requires : goal.abs_op-requires
abs_op-requires c = record {
  allowed = allowed_alike c.args.op c.args.scalar c.requires.number;
  left_fits = c.requires.first.fits;
  left_of = c.requires.first.of;
  right_fits = c.requires.second.fits;
  right_of = c.requires.second.of;
}

pub returns-clause-kept : goal.returns-clause-kept
returns-clause-kept c =
    kept_ok c.args.scalar c.args.limits.now c.abs_op.result _
    (made_kept c.args.limits.now c.known.ensures c.args.mode c.args.op c.args.scalar c.args.first.now c.args.second.now c.requires.number c.requires.first c.requires.second)
    c.abs_op.ensures
