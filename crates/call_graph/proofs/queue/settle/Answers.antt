use Rattle.std.proofs.Common.{◌≡◌, ◌∷◌, Bool, List, false, get_or, length, sym, ap, subst, arith}
use Rattle.call_graph.specs.Walk.{row_at}
use Rattle.call_graph.specs.Queue.{AreTrimmed, AreNodes, IsQueue}
use Rattle.call_graph.proofs.Queueing.{nodes_trimmed, queue_trimmed, nodes_waiting, queue_waiting, nodes_ready, queue_ready}
use Rattle.call_graph.proofs.queue.settle.Goals as goal

pub trim_row-requires-clause-ends : goal.trim_row-requires-clause-ends
trim_row-requires-clause-ends c = λ r t h. let low = c.requires.nodes.ends r t h in omega (arith, low, ap length c.as_slice.ensures.value)

pub add_to-requires : goal.add_to-requires
add_to-requires c =
    let q = c.args.queue.now in
    let P : List Bool → Type 0 = λ ms. AreTrimmed ms (row_at q.leaving.items c.args.node) (row_at c.trim_row.new.leaving.items c.args.node) in
    let trims = subst P c.as_slice.ensures.value c.in-Some.ensures.trimmed in
    let nodes = nodes_trimmed q.standing.items q.ready q.waiting.items q.leaving.items c.requires.nodes c.args.node c.requires.node c.trim_row.new.leaving.items (row_at c.trim_row.new.leaving.items c.args.node) c.in-Some.ensures.row trims in
    let low = nodes.ends c.args.node c.in-Some.target c.in-Some.ensures.some.0 in
    omega (arith, low, c.requires.nodes.waiting_each)

pub returns-in_ok-add_to-in-Some-clause-nodes : goal.returns-in_ok-add_to-in-Some-clause-nodes
returns-in_ok-add_to-in-Some-clause-nodes c =
    let q = c.args.queue.now in
    let P : List Bool → Type 0 = λ ms. AreTrimmed ms (row_at q.leaving.items c.args.node) (row_at c.trim_row.new.leaving.items c.args.node) in
    let trims = subst P c.as_slice.ensures.value c.in-Some.ensures.trimmed in
    let new = c.trim_row.new.leaving.items in
    let nodes = nodes_trimmed q.standing.items q.ready q.waiting.items q.leaving.items c.requires.nodes c.args.node c.requires.node new (row_at new c.args.node) c.in-Some.ensures.row trims in
    let D : List Bool → Type 0 = λ ms. get_or ms c.in-Some.target false ≡ false in
    let down = subst D c.as_slice.ensures.value c.in-Some.ensures.some.1 in
    nodes_waiting q.standing.items q.ready q.waiting.items new nodes c.args.node c.requires.node c.in-Some.target c.in-Some.ensures.some.0 down c.add_to.new.rows.items c.in_ok-add_to-in-Some.ensures

pub returns-in_ok-add_to-in-Some-clause-settled : goal.returns-in_ok-add_to-in-Some-clause-settled
returns-in_ok-add_to-in-Some-clause-settled c = λ firsts between rest is.
    let q = c.args.queue.now in
    let P : List Bool → Type 0 = λ ms. AreTrimmed ms (row_at q.leaving.items c.args.node) (row_at c.trim_row.new.leaving.items c.args.node) in
    let trims = subst P c.as_slice.ensures.value c.in-Some.ensures.trimmed in
    let new = c.trim_row.new.leaving.items in
    let nodes = nodes_trimmed q.standing.items q.ready q.waiting.items q.leaving.items c.requires.nodes c.args.node c.requires.node new (row_at new c.args.node) c.in-Some.ensures.row trims in
    let D : List Bool → Type 0 = λ ms. get_or ms c.in-Some.target false ≡ false in
    let down = subst D c.as_slice.ensures.value c.in-Some.ensures.some.1 in
    queue_waiting q.standing.items q.ready q.waiting.items new nodes c.args.node c.requires.node c.in-Some.target c.in-Some.ensures.some.0 down c.add_to.new.rows.items c.in_ok-add_to-in-Some.ensures firsts between rest
    (queue_trimmed q.standing.items q.ready q.waiting.items q.leaving.items c.requires.nodes c.args.node c.requires.node new (row_at new c.args.node) c.in-Some.ensures.row trims firsts between (c.args.node ∷ rest) is)

pub returns-in-None-clause-nodes : goal.returns-in-None-clause-nodes
returns-in-None-clause-nodes c =
    let q = c.args.queue.now in
    let P : List Bool → Type 0 = λ ms. AreTrimmed ms (row_at q.leaving.items c.args.node) (row_at c.trim_row.new.leaving.items c.args.node) in
    let trims = subst P c.as_slice.ensures.value c.in-None.ensures.trimmed in
    let new = c.trim_row.new.leaving.items in
    let nodes = nodes_trimmed q.standing.items q.ready q.waiting.items q.leaving.items c.requires.nodes c.args.node c.requires.node new (row_at new c.args.node) c.in-None.ensures.row trims in
    let R : List Bool → Type 0 = λ ms. AreNodes q.standing.items ms q.waiting.items new in
    subst R (sym c.set.ensures) (nodes_ready q.standing.items q.ready q.waiting.items new nodes c.args.node c.requires.node c.in-None.ensures.none)

pub returns-in-None-clause-settled : goal.returns-in-None-clause-settled
returns-in-None-clause-settled c = λ firsts between rest is.
    let q = c.args.queue.now in
    let P : List Bool → Type 0 = λ ms. AreTrimmed ms (row_at q.leaving.items c.args.node) (row_at c.trim_row.new.leaving.items c.args.node) in
    let trims = subst P c.as_slice.ensures.value c.in-None.ensures.trimmed in
    let new = c.trim_row.new.leaving.items in
    let nodes = nodes_trimmed q.standing.items q.ready q.waiting.items q.leaving.items c.requires.nodes c.args.node c.requires.node new (row_at new c.args.node) c.in-None.ensures.row trims in
    let R : List Bool → Type 0 = λ ms. IsQueue firsts between rest q.standing.items ms q.waiting.items new in
    subst R (sym c.set.ensures) (queue_ready q.standing.items q.ready q.waiting.items new nodes c.args.node c.requires.node c.in-None.ensures.none firsts between rest
    (queue_trimmed q.standing.items q.ready q.waiting.items q.leaving.items c.requires.nodes c.args.node c.requires.node new (row_at new c.args.node) c.in-None.ensures.row trims firsts between (c.args.node ∷ rest) is))
