use Rattle.std.proofs.Common.{◌≡◌, ◌++◌, drop}
use Rattle.gimple_lowered.proofs.pieces.put_copies.Given as goal

abbrev pub invariant-loop-at : goal.invariant-loop-at
invariant-loop-at l = l.table ++ drop l.at l.registers ≡ l.fn.table ++ l.registers
