use Rattle.std.proofs.Common.{◌≡◌, ◌++◌, drop}
use Rattle.ipa_dumps.specs.Classes.{classes_from}
use Rattle.ipa_dumps.proofs.classes.push_classes.Given as goal

abbrev pub invariant-loop-function : goal.invariant-loop-function
invariant-loop-function g l =
    l.text ++ classes_from l.program (g.V.ClassView.classes l.view) l.function (drop l.function (g.V.ClassView.classes l.view))
    ≡ l.fn.text ++ classes_from l.program (g.V.ClassView.classes l.view) 0 (g.V.ClassView.classes l.view)
