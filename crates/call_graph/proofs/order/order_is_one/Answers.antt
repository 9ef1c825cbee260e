use Rattle.call_graph.proofs.Ordering.{order_is_one_law}
use Rattle.call_graph.proofs.order.order_is_one.Goals as goal

pub returns : goal.returns
returns c = order_is_one_law
