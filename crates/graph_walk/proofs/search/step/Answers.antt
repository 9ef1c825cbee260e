use Rattle.std.proofs.Common.{ℕ, Bool, false, List, length, get_or, sym, ◌∙◌, ap, subst, arith}
use Rattle.std.specs.List.{Contains}
use Rattle.std.proofs.lemmas.List.{get_or_read}
use Rattle.std.proofs.lemmas.List.Elements.{Contains-get_or}
use Rattle.graph_walk.specs.Walk.{row_at}
use Rattle.graph_walk.proofs.Searching.{last_inside, search_onward, search_back, work_falls}
use Rattle.graph_walk.proofs.WalkRows.{row_is}
use Rattle.graph_walk.proofs.search.step.Goals as goal

pub bounds-rows-node : goal.bounds-rows-node
bounds-rows-node c =
    let s = c.args.search.now in
    last_inside (row_at c.args.rows.now) (length c.args.rows.now) s.marks.items s.followed.items s.path.items s.finished.items c.requires.search c.args.node c.requires.last

pub index-requires : goal.index-requires
index-requires c =
    let s = c.args.search.now in
    let low = last_inside (row_at c.args.rows.now) (length c.args.rows.now) s.marks.items s.followed.items s.path.items s.finished.items c.requires.search c.args.node c.requires.last in
    omega (arith, low, c.requires.search.counts)

pub next_unmarked-requires : goal.next_unmarked-requires
next_unmarked-requires c = λ b h.
    let s = c.args.search.now in
    let inside = last_inside (row_at c.args.rows.now) (length c.args.rows.now) s.marks.items s.followed.items s.path.items s.finished.items c.requires.search c.args.node c.requires.last in
    let row = c.as_slice-row.ensures.value ∙ row_is c.args.rows.now c.args.node c.index-rows-node.result inside c.index-rows-node.is in
    let P : List ℕ → Type 0 = λ xs. Contains xs b in
    let low = c.requires.ends c.args.node b (subst P row h) in
    let len = ap length c.as_slice.ensures.value in
    omega (arith, low, len, c.requires.search.one_each)

pub enter-requires : goal.enter-requires
enter-requires c =
    let s = c.args.search.now in
    let inside = last_inside (row_at c.args.rows.now) (length c.args.rows.now) s.marks.items s.followed.items s.path.items s.finished.items c.requires.search c.args.node c.requires.last in
    let row = c.as_slice-row.ensures.value ∙ row_is c.args.rows.now c.args.node c.index-rows-node.result inside c.index-rows-node.is in
    let t = get_or c.as_slice-row.result.now c.in-Some.at 0 in
    let P : List ℕ → Type 0 = λ xs. Contains xs t in
    let low = c.requires.ends c.args.node t (subst P row (Contains-get_or c.as_slice-row.result.now c.in-Some.at 0 c.in-Some.ensures.inside)) in
    omega (arith, low, c.requires.search.one_each)

pub index_mut-requires : goal.index_mut-requires
index_mut-requires c =
    let s = c.args.search.now in
    let low = last_inside (row_at c.args.rows.now) (length c.args.rows.now) s.marks.items s.followed.items s.path.items s.finished.items c.requires.search c.args.node c.requires.last in
    let len = ap length c.in_ok-enter-in-Some.ensures.followed in
    omega (arith, low, len, c.requires.search.counts)

pub returns-in_ok-enter-in-Some-clause-search : goal.returns-in_ok-enter-in-Some-clause-search
returns-in_ok-enter-in-Some-clause-search c =
    let s = c.args.search.now in
    let v = c.enter.new.search in
    let made = c.in_ok-enter-in-Some.ensures in
    let inside = last_inside (row_at c.args.rows.now) (length c.args.rows.now) s.marks.items s.followed.items s.path.items s.finished.items c.requires.search c.args.node c.requires.last in
    let row = c.as_slice-row.ensures.value ∙ row_is c.args.rows.now c.args.node c.index-rows-node.result inside c.index-rows-node.is in
    let (rest, split) = c.requires.last in
    let count = get_or_read s.followed.items c.args.node c.index.result.now (omega (arith, inside, c.requires.search.counts)) c.index.ensures 0 in
    search_onward (row_at c.args.rows.now) (length c.args.rows.now) s.marks.items s.followed.items s.path.items s.finished.items c.requires.search
    v.marks.items v.followed.items v.path.items v.finished.items rest c.args.node split c.as_slice-row.result.now row c.as_slice.result.now c.as_slice.ensures.value c.index.result.now count
    c.in-Some.at c.in-Some.ensures.inside c.in-Some.ensures.unmarked c.in-Some.ensures.first (c.requires.ends c.args.node) inside made.marks made.followed made.path made.finished

pub returns-in_ok-enter-in-Some-clause-falls : goal.returns-in_ok-enter-in-Some-clause-falls
returns-in_ok-enter-in-Some-clause-falls c =
    let s = c.args.search.now in
    let v = c.enter.new.search in
    let made = c.in_ok-enter-in-Some.ensures in
    let inside = last_inside (row_at c.args.rows.now) (length c.args.rows.now) s.marks.items s.followed.items s.path.items s.finished.items c.requires.search c.args.node c.requires.last in
    let row = c.as_slice-row.ensures.value ∙ row_is c.args.rows.now c.args.node c.index-rows-node.result inside c.index-rows-node.is in
    let t = get_or c.as_slice-row.result.now c.in-Some.at 0 in
    let P : List ℕ → Type 0 = λ xs. Contains xs t in
    let low = c.requires.ends c.args.node t (subst P row (Contains-get_or c.as_slice-row.result.now c.in-Some.at 0 c.in-Some.ensures.inside)) in
    let off = ap (λ (ms : List Bool). get_or ms t false) (sym c.as_slice.ensures.value) ∙ c.in-Some.ensures.unmarked in
    work_falls s.marks.items v.marks.items s.path.items v.path.items t (omega (arith, low, c.requires.search.one_each)) off made.marks made.path

pub returns-in_ok-leave-in-None-clause-search : goal.returns-in_ok-leave-in-None-clause-search
returns-in_ok-leave-in-None-clause-search c =
    let s = c.args.search.now in
    let v = c.leave.new.search in
    let made = c.in_ok-leave-in-None.ensures in
    let inside = last_inside (row_at c.args.rows.now) (length c.args.rows.now) s.marks.items s.followed.items s.path.items s.finished.items c.requires.search c.args.node c.requires.last in
    let row = c.as_slice-row.ensures.value ∙ row_is c.args.rows.now c.args.node c.index-rows-node.result inside c.index-rows-node.is in
    let (rest, split) = c.requires.last in
    let count = get_or_read s.followed.items c.args.node c.index.result.now (omega (arith, inside, c.requires.search.counts)) c.index.ensures 0 in
    search_back (row_at c.args.rows.now) (length c.args.rows.now) s.marks.items s.followed.items s.path.items s.finished.items c.requires.search
    v.marks.items v.followed.items v.path.items v.finished.items rest c.args.node split c.as_slice-row.result.now row c.as_slice.result.now c.as_slice.ensures.value c.index.result.now count
    c.in-None.ensures.none made.marks made.followed made.path made.finished
