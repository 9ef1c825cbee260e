use Rattle.std.proofs.Common.{◌≡◌, ◌++◌, [], drop, get_or}
use Rattle.ipa_dumps.specs.CpTexts.{formals_from}
use Rattle.ipa_dumps.proofs.cp.push_formals.Given as goal

abbrev pub invariant-loop-place : goal.invariant-loop-place
invariant-loop-place g l =
    l.text ++ formals_from l.program l.function (get_or (g.V.CpView.rows l.view) l.number []) l.place (drop l.place l.function.params)
    ≡ l.fn.text ++ formals_from l.program l.function (get_or (g.V.CpView.rows l.view) l.number []) 0 l.function.params
