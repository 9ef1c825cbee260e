use Rattle.std.proofs.Common.{◌≡◌, Bool, true, false, List, length, get_or, sym, ◌∙◌, subst, arith}
use Rattle.std.proofs.lemmas.List.{get_or_read, get_or-set_same}
use Rattle.graph_walk.specs.Walk.{row_at}
use Rattle.graph_walk.proofs.Searching.{search_begun, still_marked}
use Rattle.graph_walk.proofs.search.search_from.Goals as goal

pub loop-node-init : goal.loop-node-init
loop-node-init c =
    let out = row_at c.args.rows.now in
    let s = c.args.search.now in
    let v = c.enter.new.search in
    let made = c.in_ok-enter.ensures in
    let low = c.requires.root in
    let len = c.requires.search.one_each in
    let fresh = sym (get_or_read s.marks.items c.args.root c.index.result.now (omega (arith, low, len)) c.index.ensures false) ∙ c.if-index.false in
    record {
      search = search_begun out (length c.args.rows.now) s.marks.items s.followed.items s.path.items s.finished.items c.requires.search v.marks.items v.followed.items v.path.items v.finished.items
          c.requires.path c.args.root low fresh made.marks made.followed made.path made.finished;
      kept = λ a on.
          let P : List Bool → Type 0 = λ ms. get_or ms a false ≡ true in
          subst P (sym made.marks) (still_marked out (length c.args.rows.now) s.marks.items s.followed.items s.path.items s.finished.items c.requires.search c.args.root a on);
      met =
          let P : List Bool → Type 0 = λ ms. get_or ms c.args.root false ≡ true in
          subst P (sym made.marks) (get_or-set_same s.marks.items c.args.root true false (omega (arith, low, len)));
    }
