use Rattle.std.proofs.Common.{◌≡◌, ◌++◌, take}
use Rattle.std.specs.List.{flat_map}
use Rattle.gimple_text.specs.Canon.{register_line}
use Rattle.gimple_text.proofs.printer.put_registers.Given as goal

abbrev pub invariant-loop-register : goal.invariant-loop-register
invariant-loop-register l = l.out ≡ l.fn.out ++ flat_map register_line (take l.register-index l.registers)
