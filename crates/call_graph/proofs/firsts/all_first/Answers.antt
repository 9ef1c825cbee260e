use Rattle.std.proofs.Common.{◌≡◌, ◌==◌, ℕ, ◌+◌, List, length, slice_index_or, sym, subst, arith}
use Rattle.call_graph.specs.Firsts.{IsPart}
use Rattle.call_graph.proofs.Growing.{part_more}
use Rattle.call_graph.proofs.firsts.all_first.Goals as goal

pub loop-node-preserved : goal.loop-node-preserved
loop-node-preserved c =
    let test = λ (m : ℕ). slice_index_or c.args.firsts.now m 0 == m in
    let P : List ℕ → Type 0 = λ xs. IsPart test (c.loop-node.node + 1) xs in
    subst P (sym c.in_ok-push_if.ensures) (part_more test c.loop-node.node c.loop-node.found.items c.is_first.result (sym c.is_first.ensures) c.loop-node.invariant)

pub returns : goal.returns
returns c =
    let end : c.loop-node.node ≡ length c.args.firsts.now = omega (arith, c.loop-node-test.false, c.loop-node.auto.node-end) in
    let P : ℕ → Type 0 = λ k. IsPart (λ m. slice_index_or c.args.firsts.now m 0 == m) k c.loop-node.found.items in
    subst P end c.loop-node.invariant
