use Rattle.std.proofs.Common.{ℕ, List, length, subst, arith}
use Rattle.graph_walk.specs.Search.{IsSearch}
use Rattle.graph_walk.specs.Walk.{row_at}
use Rattle.graph_walk.proofs.Searching.{search_done}
use Rattle.graph_walk.proofs.search.finishing_order.Goals as goal

pub returns : goal.returns
returns c =
    let out = row_at c.args.rows.now in
    let s = c.loop-root.search in
    let P : List ℕ → Type 0 = λ xs. IsSearch out (length c.args.rows.now) s.marks.items s.followed.items xs s.finished.items in
    search_done out (length c.args.rows.now) s.marks.items s.followed.items s.finished.items (subst P c.loop-root.invariant.path c.loop-root.invariant.search)
    (λ a low. c.loop-root.invariant.met a (omega (arith, low, c.loop-root-test.false)))
