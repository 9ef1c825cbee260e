use Rattle.std.proofs.Common.{◌≡◌, drop}
use Rattle.gimple_core.specs.Run.{with_globals}
use Rattle.gimple_exec.proofs.memory.Memory.add_globals.Given as goal

abbrev pub invariant-loop-k : goal.invariant-loop-k
invariant-loop-k l = with_globals l.structs l.named l.k (drop l.k l.globals) l.self ≡ with_globals l.structs l.named 0 l.globals l.fn.self
