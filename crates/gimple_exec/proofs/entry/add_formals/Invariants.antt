use Rattle.std.proofs.Common.{◌≡◌, ◌++◌, drop}
use Rattle.gimple_core.specs.Run.{values_made}
use Rattle.gimple_lowered.specs.Meaning.{source_values}
use Rattle.gimple_exec.proofs.entry.add_formals.Given as goal

abbrev pub invariant-loop-k : goal.invariant-loop-k
invariant-loop-k l = l.held.items ++ values_made (drop l.k l.formals) (source_values l.serial l.registers l.sources) l.k ≡ l.fn.held.items ++ values_made l.formals (source_values l.serial l.registers l.sources) 0
