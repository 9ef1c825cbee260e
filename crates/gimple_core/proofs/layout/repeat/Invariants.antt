use Rattle.std.proofs.Common.{◌≡◌}
use Rattle.gimple_core.specs.Layout.{repeated}
use Rattle.gimple_core.proofs.layout.repeat.Given as goal

abbrev pub invariant-loop-k : goal.invariant-loop-k
invariant-loop-k l = l.all ≡ repeated l.k l.size l.slots
