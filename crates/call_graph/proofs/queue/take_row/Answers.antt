use Rattle.std.proofs.Common.{List, ℕ, set, ◌∙◌, ap}
use Rattle.call_graph.specs.Walk.{listed}
use Rattle.call_graph.proofs.Queueing.{row_replaced}
use Rattle.call_graph.proofs.queue.take_row.Goals as goal

pub returns-clause-left : goal.returns-clause-left
returns-clause-left c =
    let rows = c.args.rows.now.items in
    row_replaced rows c.args.node c.replace.new.dest ∙ ap (λ (r : List ℕ). set (listed rows) c.args.node r) (ap (λ v. v.items) c.replace.ensures.after ∙ c.new.ensures.items)
