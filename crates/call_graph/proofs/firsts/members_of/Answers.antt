use Rattle.std.proofs.Common.{◌≡◌, ◌==◌, ◌<◌, ◌++◌, ◌∷◌, [], ◌∙◌, ℕ, ◌+◌, List, length, slice_index_or, refl, sym, subst, arith}
use Rattle.call_graph.specs.Firsts.{IsPart}
use Rattle.call_graph.specs.Walk.{row_at}
use Rattle.call_graph.proofs.Filling.{member_row, set_one_each}
use Rattle.call_graph.proofs.Growing.{part_more}
use Rattle.call_graph.proofs.firsts.members_of.Goals as goal

pub add_member-requires-clause-low : goal.add_member-requires-clause-low
add_member-requires-clause-low c = let low = c.requires.low c.loop-node.node c.loop-node-test.true in omega (arith, low, c.loop-node.invariant.len)

pub loop-node-preserved : goal.loop-node-preserved
loop-node-preserved c =
    let olds = c.loop-node.members.items in
    let news = c.add_member.new.members.items in
    let m = c.loop-node.node in
    let first = slice_index_or c.args.firsts.now m 0 in
    let under = c.requires.low m c.loop-node-test.true in
    let low : first < length olds = omega (arith, under, c.loop-node.invariant.len) in
    record {
      len = set_one_each olds news first (row_at olds first ++ m ∷ []) low c.in_ok-add_member.ensures ∙ c.loop-node.invariant.len;
      each = λ r.
          let test = λ (k : ℕ). r == slice_index_or c.args.firsts.now k 0 in
          let P : List ℕ → Type 0 = λ xs. IsPart test (m + 1) xs in
          subst P (sym (member_row olds news first m low c.in_ok-add_member.ensures r)) (part_more test m (row_at olds r) (r == first) refl (c.loop-node.invariant.each r));
    }

pub returns-clause-each : goal.returns-clause-each
returns-clause-each c = λ r.
    let end : c.loop-node.node ≡ length c.args.firsts.now = omega (arith, c.loop-node-test.false, c.loop-node.auto.node-end) in
    let P : ℕ → Type 0 = λ k. IsPart (λ m. r == slice_index_or c.args.firsts.now m 0) k (row_at c.loop-node.members.items r) in
    subst P end (c.loop-node.invariant.each r)
