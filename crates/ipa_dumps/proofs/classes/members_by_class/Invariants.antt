use Rattle.std.proofs.Common.{take}
use Rattle.ipa_dumps.specs.Groups.{AreGroups}
use Rattle.ipa_dumps.proofs.classes.members_by_class.Given as goal

abbrev pub invariant-loop-function : goal.invariant-loop-function
invariant-loop-function g l = AreGroups (take l.function (g.V.ClassView.classes l.view)) l.functions l.groups.items
