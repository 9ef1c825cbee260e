use Rattle.std.proofs.Common.{◌≡◌, ◌++◌, drop}
use Rattle.ipa_dumps.specs.CpTexts.{rows_from}
use Rattle.ipa_dumps.proofs.cp.push_rows.Given as goal

abbrev pub invariant-loop-number : goal.invariant-loop-number
invariant-loop-number g l =
    l.text ++ rows_from l.program (g.V.CpView.rows l.view) l.number (drop l.number l.functions)
    ≡ l.fn.text ++ rows_from l.program (g.V.CpView.rows l.view) 0 l.functions
