use Rattle.std.proofs.Common.{sym, ◌∙◌}
use Rattle.call_graph.proofs.Addressing.{address_pushed, address_left}
use Rattle.call_graph.proofs.addresses.push_address.Goals as goal

pub returns-in_ok-push-in-Some : goal.returns-in_ok-push-in-Some
returns-in_ok-push-in-Some c =
    address_pushed c.args.functions.now c.args.operand.now _ _ c.in-Address.is c.args.numbers.now.items c.in-Some.number c.push.new.self.items (sym c.place.ensures ∙ c.in-Some.is) c.in_ok-push-in-Some.ensures.items

pub returns-in-None : goal.returns-in-None
returns-in-None c =
    address_left c.args.functions.now c.args.operand.now _ _ c.in-Address.is c.args.numbers.now.items (sym c.place.ensures ∙ c.in-None.is)
