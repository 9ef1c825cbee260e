use Rattle.std.proofs.Common.{◌≡◌, ◌++◌, [], drop}
use Rattle.gimple_core.specs.Run.{values_made}
use Rattle.gimple_exec.proofs.entry.add_others.Given as goal

abbrev pub invariant-loop-k : goal.invariant-loop-k
invariant-loop-k l = l.held.items ++ values_made (drop l.k l.registers) [] l.k ≡ l.fn.held.items ++ values_made l.registers [] 0
