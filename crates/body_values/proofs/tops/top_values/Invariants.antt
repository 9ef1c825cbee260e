use Rattle.std.proofs.Common.{◌≡◌, ◌++◌, map, drop}
use Rattle.body_values.specs.TopFacts.{top_value}
use Rattle.body_values.proofs.tops.top_values.Given as goal

abbrev pub invariant-loop-register : goal.invariant-loop-register
invariant-loop-register l = l.values ++ map top_value (drop l.register-index l.registers) ≡ map top_value l.registers
