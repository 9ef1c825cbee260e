use Rattle.std.proofs.Common.{◌≡◌, ◌++◌, drop}
use Rattle.call_graph.specs.Addresses.{body_addresses}
use Rattle.call_graph.proofs.addresses.push_body.Given as goal

abbrev pub invariant-loop-statement : goal.invariant-loop-statement
invariant-loop-statement l = l.numbers.items ++ body_addresses l.functions (drop l.statement-index l.body) ≡ l.initial.numbers.items ++ body_addresses l.functions l.body
