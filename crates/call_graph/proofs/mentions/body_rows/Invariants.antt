use Rattle.std.proofs.Common.{◌≡◌, map, take}
use Rattle.call_graph.specs.Addresses.{function_addresses}
use Rattle.call_graph.specs.Walk.{listed}
use Rattle.call_graph.proofs.mentions.body_rows.Given as goal

abbrev pub invariant-loop-function : goal.invariant-loop-function
invariant-loop-function l = listed l.rows.items ≡ map (function_addresses l.functions) (take l.function-index l.bodies)
