use Rattle.std.proofs.Common.{◌≡◌, length}
use Rattle.gimple_core.specs.Run.{walk}
use Rattle.gimple_exec.specs.Machines.{state_of, IsSound}
use Rattle.gimple_exec.proofs.machine.Machine.walk.Given as goal

abbrev pub invariant-loop-reach : goal.invariant-loop-reach
invariant-loop-reach l = record {
  walk : walk l.program (state_of l.program l.fn.self).top.rest (state_of l.program l.fn.self) ≡ walk l.program (state_of l.program l.self).top.rest (state_of l.program l.self);
  sound : IsSound l.program l.self;
  next : l.self.next ≡ l.fn.self.next;
  function : l.self.top.function ≡ l.fn.self.top.function;
  block : l.self.top.block ≡ l.fn.self.top.block;
}

abbrev pub decreases-loop-reach : goal.decreases-loop-reach
decreases-loop-reach l = length (state_of l.program l.self).top.rest
