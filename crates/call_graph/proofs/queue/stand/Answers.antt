use Rattle.std.proofs.Common.{ℕ, Bool, List, true, set, sym, ◌∙◌, subst, arith}
use Rattle.std.specs.List.{Contains}
use Rattle.std.proofs.Math.ListN.{length-set}
use Rattle.call_graph.specs.Walk.{row_at}
use Rattle.call_graph.specs.Queue.{AreNodes, IsQueue}
use Rattle.call_graph.proofs.Queueing.{nodes_standing, queue_standing}
use Rattle.call_graph.proofs.queue.stand.Goals as goal

pub settle_all-requires-clause-nodes : goal.settle_all-requires-clause-nodes
settle_all-requires-clause-nodes c =
    let q = c.args.queue.now in
    let P : List Bool → Type 0 = λ ms. AreNodes (set q.standing.items c.args.node true) ms c.take_row-woken.new.rows.items q.leaving.items in
    subst P (sym c.set.ensures) (nodes_standing q.standing.items q.ready q.waiting.items q.leaving.items c.requires.nodes c.args.node c.requires.node c.take_row-woken.new.rows.items c.take_row-woken.ensures.left)

pub settle_all-requires-clause-all : goal.settle_all-requires-clause-all
settle_all-requires-clause-all c = λ r h.
    let q = c.args.queue.now in
    let P : List ℕ → Type 0 = λ xs. Contains xs r in
    let low = c.requires.nodes.waits c.args.node r (subst P (c.as_slice.ensures.value ∙ c.take_row-woken.ensures.taken) h) in
    omega (arith, low, length-set q.standing.items c.args.node true)

pub returns-clause-queue : goal.returns-clause-queue
returns-clause-queue c = λ firsts between on is.
    let q = c.args.queue.now in
    let stands = set q.standing.items c.args.node true in
    let emptied = c.take_row-woken.new.rows.items in
    let P : List Bool → Type 0 = λ ms. IsQueue firsts between (row_at q.waiting.items c.args.node) stands ms emptied q.leaving.items in
    let Q : List ℕ → Type 0 = λ xs. IsQueue firsts between xs stands c.set.new.self emptied q.leaving.items in
    let now = subst P (sym c.set.ensures) (queue_standing q.standing.items q.ready q.waiting.items q.leaving.items c.requires.nodes c.args.node c.requires.node emptied c.take_row-woken.ensures.left firsts between on is) in
    c.in_ok-settle_all.ensures.settled firsts between (subst Q (sym (c.as_slice.ensures.value ∙ c.take_row-woken.ensures.taken)) now)
