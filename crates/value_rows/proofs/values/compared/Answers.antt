use Rattle.std.proofs.Common.{inl}
use Rattle.value_rows.proofs.KeptLemmas.{kept_ok, compared_kept}
use Rattle.value_rows.proofs.values.compared.Goals as goal

pub abs_cmp-requires : goal.abs_cmp-requires
abs_cmp-requires c = record {
  target = c.requires.target;
  allowed = inl c.requires.number;
  left_fits = c.requires.first.fits;
  left_of = c.requires.first.of;
  right_fits = c.requires.second.fits;
  right_of = c.requires.second.of;
}

pub returns-clause-kept : goal.returns-clause-kept
returns-clause-kept c =
    kept_ok c.args.target c.args.limits.now c.abs_cmp.result _
    (compared_kept c.args.limits.now c.known.ensures c.args.target c.args.cmp c.args.scalar c.args.first.now c.args.second.now c.requires.target)
    c.abs_cmp.ensures
