use Rattle.std.proofs.Common.{◌≡◌, ◌+◌, ◌-◌, ◌≤◌, ◌^◌}
use Rattle.gimple_core.specs.Run.{runs}
use Rattle.gimple_exec.specs.Machines.{state_of, IsSound}
use Rattle.gimple_exec.proofs.interpreter.take_turns.Given as goal

abbrev pub invariant-loop-turn : goal.invariant-loop-turn
invariant-loop-turn l = record {
  runs : runs l.program (l.turns - l._turn) (state_of l.program l.machine) ≡ runs l.program l.turns (state_of l.program l.fn.machine);
  sound : IsSound l.program l.machine;
  serials : l.machine.next + (l.turns - l._turn) ≤ 2 ^ 64;
}
