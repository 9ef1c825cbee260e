use Rattle.value_rows.proofs.KeptLemmas.{kept_ok, converted_kept}
use Rattle.value_rows.proofs.values.converted.Goals as goal

pub abs_convert-requires : goal.abs_convert-requires
abs_convert-requires c = record {
  target = c.requires.target;
  source = c.requires.source;
  fits = c.requires.value.fits;
  of = c.requires.value.of;
}

pub returns-clause-kept : goal.returns-clause-kept
returns-clause-kept c =
    kept_ok c.args.target c.args.limits.now c.abs_convert.result _
    (converted_kept c.args.limits.now c.known.ensures c.args.target c.args.source c.args.value.now c.requires.target c.requires.source c.requires.value)
    c.abs_convert.ensures
