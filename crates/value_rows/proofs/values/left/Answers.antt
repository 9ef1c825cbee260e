use Rattle.std.proofs.Common.{inl}
use Rattle.value_rows.proofs.KeptLemmas.{kept_ok, left_kept}
use Rattle.value_rows.proofs.values.left.Goals as goal

pub refine-requires : goal.refine-requires
refine-requires c = record {
  allowed = inl c.requires.number;
  side_fits = c.requires.side.fits;
  side_of = c.requires.side.of;
  against_fits = c.requires.against.fits;
  against_of = c.requires.against.of;
}

pub returns-clause-kept : goal.returns-clause-kept
returns-clause-kept c =
    kept_ok c.args.scalar c.args.limits.now c.refine.result _
    (left_kept c.args.limits.now c.known.ensures c.args.cmp c.args.scalar c.args.side.now c.args.against.now c.requires.number c.requires.side c.requires.against)
    c.refine.ensures
