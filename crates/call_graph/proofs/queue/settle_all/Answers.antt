use Rattle.std.proofs.Common.{◌∙◌, ℕ, ◌+◌, List, slice_index_or, drop, length, ap, subst, arith}
use Rattle.std.proofs.lemmas.List.{drop_more}
use Rattle.std.proofs.lemmas.List.Elements.{Contains-get_or}
use Rattle.call_graph.specs.Queue.{IsQueue}
use Rattle.call_graph.proofs.Queueing.{drop_end}
use Rattle.call_graph.proofs.queue.settle_all.Goals as goal

pub settle-requires-clause-node : goal.settle-requires-clause-node
settle-requires-clause-node c =
    let low = c.requires.all (slice_index_or c.args.all.now c.loop-node.node-index 0) (Contains-get_or c.args.all.now c.loop-node.node-index 0 c.loop-node-test.true) in
    omega (arith, low, ap length c.loop-node.invariant.standing)

pub loop-node-preserved : goal.loop-node-preserved
loop-node-preserved c = record {
  standing = c.in_ok-settle.ensures.standing ∙ c.loop-node.invariant.standing;
  nodes = c.in_ok-settle.ensures.nodes;
  settled = λ firsts between is.
      let q = c.loop-node.queue in
      let all = c.args.all.now in
      let i = c.loop-node.node-index in
      let P : List ℕ → Type 0 = λ xs. IsQueue firsts between xs q.standing.items q.ready q.waiting.items q.leaving.items in
      c.in_ok-settle.ensures.settled firsts between (drop (i + 1) all) (subst P (drop_more all i 0 c.loop-node-test.true) (c.loop-node.invariant.settled firsts between is));
}

pub returns-clause-settled : goal.returns-clause-settled
returns-clause-settled c = λ firsts between is.
    let q = c.loop-node.queue in
    let P : List ℕ → Type 0 = λ xs. IsQueue firsts between xs q.standing.items q.ready q.waiting.items q.leaving.items in
    subst P (drop_end c.args.all.now c.loop-node.node-index (omega (arith, c.loop-node-test.false))) (c.loop-node.invariant.settled firsts between is)
