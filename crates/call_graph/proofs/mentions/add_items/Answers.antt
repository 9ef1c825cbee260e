use Rattle.call_graph.specs.Addresses.{item_addresses}
use Rattle.call_graph.proofs.Filling.{row_longer}
use Rattle.call_graph.proofs.mentions.add_items.Goals as goal

pub returns : goal.returns
returns c =
    row_longer c.args.rows.now.items c.args.node (item_addresses c.args.functions.now c.args.globals.now) c.index_mut.result.now c.push_items.new.numbers c.requires.node c.index_mut.ensures.value c.in_ok-push_items.ensures
