use Rattle.std.proofs.Common.{ℕ, List, [], ◌∷◌, sym, ◌∙◌, subst, arith}
use Rattle.std.specs.List.{Contains}
use Rattle.std.proofs.lemmas.List.{get_or_read}
use Rattle.graph_walk.specs.Walk.{row_at, Walk, IsWalk, met}
use Rattle.graph_walk.proofs.Walking.{walk_start, walk_done, next_inside, step_kept, step_work}
use Rattle.graph_walk.proofs.WalkRows.{row_is}
use Rattle.graph_walk.proofs.walk.walk_past.Goals as goal

pub loop-followed-init : goal.loop-followed-init
loop-followed-init c =
    let out = row_at c.args.rows.now in
    let P : Walk → Type 0 = λ w. IsWalk out c.args.marks.now.items c.args.root 0 w in
    let Q : List ℕ → Type 0 = λ xs. IsWalk out c.args.marks.now.items c.args.root 0 (met (c.args.root ∷ []) (record { marks = c.args.marks.now.items; nodes = xs })) in
    subst P (sym c.in_ok-meet_one.ensures) (subst Q (sym c.new-nodes.ensures.items) (walk_start out c.args.marks.now.items c.args.root (omega (arith, c.requires.root, c.requires.one_each))))

pub bounds-rows-node : goal.bounds-rows-node
bounds-rows-node c =
    let w : Walk = record { marks = c.loop-followed.marks.items; nodes = c.loop-followed.nodes.items } in
    let read = get_or_read w.nodes c.loop-followed.followed c.index-node.result.now (omega arith) c.index-node.ensures 0 in
    let low = next_inside (row_at c.args.rows.now) c.args.marks.now.items c.args.root c.loop-followed.followed w c.loop-followed.invariant c.index-node.result.now (omega arith) (sym read) in
    omega (arith, low, c.requires.one_each)

pub meet-requires : goal.meet-requires
meet-requires c = λ b h.
    let w : Walk = record { marks = c.loop-followed.marks.items; nodes = c.loop-followed.nodes.items } in
    let read = get_or_read w.nodes c.loop-followed.followed c.index-node.result.now (omega arith) c.index-node.ensures 0 in
    let inside = next_inside (row_at c.args.rows.now) c.args.marks.now.items c.args.root c.loop-followed.followed w c.loop-followed.invariant c.index-node.result.now (omega arith) (sym read) in
    let row = c.as_slice.ensures.value ∙ row_is c.args.rows.now c.index-node.result.now c.index-rows-node.result (omega (arith, inside, c.requires.one_each)) c.index-rows-node.is in
    let P : List ℕ → Type 0 = λ xs. Contains xs b in
    let low = c.requires.ends c.index-node.result.now b (subst P row h) in
    omega (arith, low, c.requires.one_each, c.loop-followed.invariant.one_each)

pub loop-followed-smaller : goal.loop-followed-smaller
loop-followed-smaller c =
    let w : Walk = record { marks = c.loop-followed.marks.items; nodes = c.loop-followed.nodes.items } in
    let v : Walk = record { marks = c.meet.new.marks.items; nodes = c.meet.new.nodes.items } in
    let read = get_or_read w.nodes c.loop-followed.followed c.index-node.result.now (omega arith) c.index-node.ensures 0 in
    let inside = next_inside (row_at c.args.rows.now) c.args.marks.now.items c.args.root c.loop-followed.followed w c.loop-followed.invariant c.index-node.result.now (omega arith) (sym read) in
    let row = c.as_slice.ensures.value ∙ row_is c.args.rows.now c.index-node.result.now c.index-rows-node.result (omega (arith, inside, c.requires.one_each)) c.index-rows-node.is in
    let work = step_work (row_at c.args.rows.now) c.args.marks.now.items c.args.root c.loop-followed.followed w c.loop-followed.invariant c.index-node.result.now (omega arith) (sym read)
    c.as_slice.result.now v row (λ b h. let low = c.requires.ends c.index-node.result.now b h in omega (arith, low, c.requires.one_each)) c.in_ok-meet.ensures in
    omega (arith, work)

pub loop-followed-preserved : goal.loop-followed-preserved
loop-followed-preserved c =
    let w : Walk = record { marks = c.loop-followed.marks.items; nodes = c.loop-followed.nodes.items } in
    let v : Walk = record { marks = c.meet.new.marks.items; nodes = c.meet.new.nodes.items } in
    let read = get_or_read w.nodes c.loop-followed.followed c.index-node.result.now (omega arith) c.index-node.ensures 0 in
    let inside = next_inside (row_at c.args.rows.now) c.args.marks.now.items c.args.root c.loop-followed.followed w c.loop-followed.invariant c.index-node.result.now (omega arith) (sym read) in
    let row = c.as_slice.ensures.value ∙ row_is c.args.rows.now c.index-node.result.now c.index-rows-node.result (omega (arith, inside, c.requires.one_each)) c.index-rows-node.is in
    step_kept (row_at c.args.rows.now) c.args.marks.now.items c.args.root c.loop-followed.followed w c.loop-followed.invariant c.index-node.result.now (omega arith) (sym read)
    c.as_slice.result.now v row (λ b h. let low = c.requires.ends c.index-node.result.now b h in omega (arith, low, c.requires.one_each)) c.in_ok-meet.ensures

pub returns : goal.returns
returns c =
    let w : Walk = record { marks = c.loop-followed.marks.items; nodes = c.loop-followed.nodes.items } in
    walk_done (row_at c.args.rows.now) c.args.marks.now.items c.args.root c.loop-followed.followed w c.loop-followed.invariant (omega (arith, c.loop-followed.invariant.followed_met))
