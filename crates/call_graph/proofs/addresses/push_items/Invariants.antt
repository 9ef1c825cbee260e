use Rattle.std.proofs.Common.{◌≡◌, ◌++◌, drop}
use Rattle.call_graph.specs.Addresses.{item_addresses}
use Rattle.call_graph.proofs.addresses.push_items.Given as goal

abbrev pub invariant-loop-global : goal.invariant-loop-global
invariant-loop-global l = l.numbers.items ++ item_addresses l.functions (drop l.global-index l.globals) ≡ l.initial.numbers.items ++ item_addresses l.functions l.globals
