use Rattle.std.proofs.Common.{◌==◌, ℕ, List, length, get_or, sym, ◌∙◌, ap, subst, arith}
use Rattle.std.proofs.Math.ListN.{length-set}
use Rattle.call_graph.specs.Calls.{callees_in}
use Rattle.call_graph.specs.Firsts.{IsPart, edges_between}
use Rattle.call_graph.proofs.Filling.{row_is}
use Rattle.call_graph.proofs.Sofar.{IsSoFar, firsts_inside, so_far_start, node_inside, order_more, order_falls, order_done}
use Rattle.call_graph.proofs.order.order_of.Goals as goal

pub members_of-requires-clause-low : goal.members_of-requires-clause-low
members_of-requires-clause-low c = firsts_inside c.args.edges.now c.args.firsts.now c.requires.callers c.requires.callees c.requires.firsts

pub queue_of-requires-clause-low : goal.queue_of-requires-clause-low
queue_of-requires-clause-low c = firsts_inside c.args.edges.now c.args.firsts.now c.requires.callers c.requires.callees c.requires.firsts

pub loop-node-init : goal.loop-node-init
loop-node-init c = record {
  one_each = c.in_ok-queue.ensures.one_each;
  nodes = c.in_ok-queue.ensures.nodes;
  queue = c.in_ok-queue.ensures.queue;
  far =
      let P : List (List ℕ) → Type 0 = λ xs. IsSoFar (callees_in c.args.edges.now) (length c.args.firsts.now) c.args.firsts.now xs c.in_ok-queue.queue.standing.items in
      subst P (sym c.new-order.ensures) (so_far_start (callees_in c.args.edges.now) (length c.args.firsts.now) c.args.firsts.now c.in_ok-queue.queue.standing.items c.in_ok-queue.ensures.none);
}

pub index-requires : goal.index-requires
index-requires c =
    let q = c.loop-node.queue in
    let low = node_inside c.args.edges.now c.args.firsts.now c.requires.callers c.requires.callees c.requires.firsts c.loop-node.order q.standing.items q.ready q.waiting.items q.leaving.items c.loop-node.invariant.one_each c.loop-node.invariant.queue c.loop-node.invariant.far c.in-Some.node c.in-Some.ensures.some in
    omega (arith, low, c.in_ok-members.ensures.one_each)

pub stand-requires-clause-node : goal.stand-requires-clause-node
stand-requires-clause-node c =
    let q = c.loop-node.queue in
    let low = node_inside c.args.edges.now c.args.firsts.now c.requires.callers c.requires.callees c.requires.firsts c.loop-node.order q.standing.items q.ready q.waiting.items q.leaving.items c.loop-node.invariant.one_each c.loop-node.invariant.queue c.loop-node.invariant.far c.in-Some.node c.in-Some.ensures.some in
    omega (arith, low, c.loop-node.invariant.one_each)

pub loop-node-smaller : goal.loop-node-smaller
loop-node-smaller c =
    let q = c.loop-node.queue in
    order_falls c.args.edges.now c.args.firsts.now c.requires.callers c.requires.callees c.requires.firsts c.loop-node.order q.standing.items q.ready q.waiting.items q.leaving.items c.loop-node.invariant.one_each c.loop-node.invariant.queue c.loop-node.invariant.far c.in-Some.node c.in-Some.ensures.some
    c.stand.new.queue.standing.items c.in_ok-stand.ensures.standing

pub loop-node-preserved : goal.loop-node-preserved
loop-node-preserved c =
    let q = c.loop-node.queue in
    let a = c.in-Some.node in
    let low = node_inside c.args.edges.now c.args.firsts.now c.requires.callers c.requires.callees c.requires.firsts c.loop-node.order q.standing.items q.ready q.waiting.items q.leaving.items c.loop-node.invariant.one_each c.loop-node.invariant.queue c.loop-node.invariant.far a c.in-Some.ensures.some in
    let row = c.as_slice.ensures.value ∙ row_is c.in_ok-members.members.items a c.index.result.now (omega (arith, low, c.in_ok-members.ensures.one_each)) c.index.ensures in
    let P : List ℕ → Type 0 = λ xs. IsPart (λ m. a == get_or c.args.firsts.now m 0) (length c.args.firsts.now) xs in
    let part : P c.in_ok-component.component = subst P (sym (c.in_ok-component.ensures ∙ row)) (c.in_ok-members.ensures.each a) in
    record {
      one_each = ap length c.in_ok-stand.ensures.standing ∙ length-set q.standing.items a _ ∙ c.loop-node.invariant.one_each;
      nodes = c.in_ok-stand.ensures.nodes;
      queue = c.in_ok-stand.ensures.queue c.args.firsts.now (callees_in (edges_between c.args.firsts.now c.args.edges.now)) c.in-Some.ensures.some.is_marked c.loop-node.invariant.queue;
      far = order_more c.args.edges.now c.args.firsts.now c.requires.callers c.requires.callees c.requires.firsts c.loop-node.order q.standing.items q.ready q.waiting.items q.leaving.items c.loop-node.invariant.one_each c.loop-node.invariant.queue c.loop-node.invariant.far a c.in-Some.ensures.some
          c.in_ok-component.component part c.stand.new.queue.standing.items c.in_ok-stand.ensures.standing c.push.new.self c.in_ok-push.ensures.ok;
    }

pub returns : goal.returns
returns c =
    let q = c.loop-node.queue in
    order_done c.args.edges.now c.args.firsts.now c.requires.callers c.requires.callees c.requires.firsts c.loop-node.order q.standing.items q.ready q.waiting.items q.leaving.items c.loop-node.invariant.one_each c.loop-node.invariant.queue c.loop-node.invariant.far c.in_default.ensures.none
