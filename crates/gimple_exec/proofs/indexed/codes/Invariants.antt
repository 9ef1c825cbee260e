use Rattle.std.proofs.Common.{◌≡◌, take}
use Rattle.gimple_exec.specs.Tables.{codes_of}
use Rattle.gimple_exec.proofs.indexed.codes.Given as goal

abbrev pub invariant-loop-k : goal.invariant-loop-k
invariant-loop-k l = l.rows.items ≡ codes_of l.program.functions l.program.globals (take l.k l.bodies)
