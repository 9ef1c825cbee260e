use Rattle.std.proofs.Common.{◌≡◌, ◌++◌, drop}
use Rattle.std.specs.List.{flat_map}
use Rattle.call_graph.specs.Addresses.{function_addresses}
use Rattle.call_graph.proofs.addresses.push_functions.Given as goal

abbrev pub invariant-loop-function : goal.invariant-loop-function
invariant-loop-function l = l.numbers.items ++ flat_map (function_addresses l.functions) (drop l.function-index l.bodies) ≡ l.initial.numbers.items ++ flat_map (function_addresses l.functions) l.bodies
