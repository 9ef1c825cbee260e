use Rattle.std.proofs.Common.{◌≡◌, ◌++◌, drop}
use Rattle.call_graph.specs.Addresses.{addresses_in}
use Rattle.call_graph.proofs.addresses.push_operands.Given as goal

abbrev pub invariant-loop-operand : goal.invariant-loop-operand
invariant-loop-operand l = l.numbers.items ++ addresses_in l.functions (drop l.operand-index l.operands) ≡ l.initial.numbers.items ++ addresses_in l.functions l.operands
