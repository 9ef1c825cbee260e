use Rattle.std.proofs.Common.{◌==◌, ℕ, List, length, get_or, sym, subst, refl, arith}
use Rattle.std.specs.List.{Contains}
use Rattle.call_graph.specs.Calls.{callees_in}
use Rattle.call_graph.specs.Firsts.{IsPart, edges_between}
use Rattle.call_graph.proofs.Queueing.{start_queue}
use Rattle.call_graph.proofs.queue.queue_of.Goals as goal

pub settle_all-requires-clause-all : goal.settle_all-requires-clause-all
settle_all-requires-clause-all c = λ r h.
    let P : List ℕ → Type 0 = λ xs. Contains xs r in
    let low = ((c.in_ok-all.ensures.exact r).0 (subst P c.as_slice.ensures.value h)).0 in
    omega (arith, low, c.in_ok-queue.ensures.one_each)

pub returns-clause-queue : goal.returns-clause-queue
returns-clause-queue c =
    let q = c.in_ok-queue.queue in
    let firsts = c.args.firsts.now in
    let between = callees_in (edges_between firsts c.args.edges.now) in
    let P : List ℕ → Type 0 = λ xs. IsPart (λ m. get_or firsts m 0 == m) (length firsts) xs in
    c.in_ok-settle_all.ensures.settled firsts between
    (start_queue (length firsts) between q.standing.items q.ready q.waiting.items q.leaving.items c.in_ok-queue.ensures firsts c.as_slice.result.now refl (subst P (sym c.as_slice.ensures.value) c.in_ok-all.ensures))
