use Rattle.std.proofs.Common.{◌∙◌, sym}
use Rattle.gimple_exec.proofs.SignatureLemmas.{other_length, scalars_differ, scalars_next, scalars_end}
use Rattle.gimple_exec.proofs.indexed.have_scalars.Goals as goal

pub returns-then-params-scalars : goal.returns-then-params-scalars
returns-then-params-scalars c = other_length c.args.params.now c.args.scalars.now c.if-params-scalars.true

pub returns-then-not-is_same_scalar : goal.returns-then-not-is_same_scalar
returns-then-not-is_same_scalar c =
    sym (sym c.loop-k.invariant ∙ scalars_differ c.args.params.now c.args.scalars.now c.loop-k.k _ _ c.loop-k-test.true c.if-params-scalars.false (sym c.is_same_scalar.ensures ∙ c.if-not-is_same_scalar.true))

pub returns : goal.returns
returns c = sym (scalars_end c.args.params.now c.args.scalars.now c.loop-k.k c.loop-k-test.false c.if-params-scalars.false) ∙ c.loop-k.invariant

pub loop-k-preserved : goal.loop-k-preserved
loop-k-preserved c =
    scalars_next c.args.params.now c.args.scalars.now c.loop-k.k _ _ c.loop-k-test.true c.if-params-scalars.false (sym c.is_same_scalar.ensures ∙ c.if-not-is_same_scalar.false)
    ∙ c.loop-k.invariant
