use Rattle.std.proofs.Common.{[], ◌∷◌}
use Rattle.call_graph.proofs.Filling.{row_longer}
use Rattle.call_graph.proofs.rows.add_to.Goals as goal

pub returns : goal.returns
returns c = row_longer c.args.rows.now.items c.args.node (c.args.target ∷ []) c.index_mut.result.now c.push.new.self c.requires c.index_mut.ensures.value c.in_ok-push.ensures.items
