use Rattle.std.proofs.Common.{◌≡◌, drop}
use Rattle.gimple_core.specs.Run.{with_locals}
use Rattle.gimple_exec.proofs.memory.Memory.add_locals.Given as goal

abbrev pub invariant-loop-k : goal.invariant-loop-k
invariant-loop-k l = with_locals l.structs l.serial l.k (drop l.k l.locals) l.self ≡ with_locals l.structs l.serial 0 l.locals l.fn.self
