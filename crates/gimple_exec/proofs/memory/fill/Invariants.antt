use Rattle.std.proofs.Common.{◌≡◌, ◌++◌, drop}
use Rattle.gimple_core.specs.Run.{filled}
use Rattle.gimple_exec.proofs.memory.fill.Given as goal

abbrev pub invariant-loop-k : goal.invariant-loop-k
invariant-loop-k l = l.slots ++ filled l.object (drop l.k l.layout) (drop l.k l.values) ≡ l.fn.slots ++ filled l.object l.layout l.values
