use Rattle.std.proofs.Common.{length, sym, ap, ◌∙◌}
use Rattle.gimple_ir.specs.declared.program.Function.{Function}
use Rattle.ipa_dumps.proofs.CpLines.{row_length}
use Rattle.ipa_dumps.proofs.cp.push_rows.Goals as goal

pub push_formals-requires-clause-row : goal.push_formals-requires-clause-row
push_formals-requires-clause-row g c =
    let f = c.index-functions-number.result in
    row_length c.args.functions.now (g.V.CpView.rows c.args.view.now) c.loop-number.number f c.requires.rows c.loop-number-test.true
    ∙ ap (λ (z : Function). length z.params) (sym c.index-functions-number.is)
