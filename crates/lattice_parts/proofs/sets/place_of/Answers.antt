use Rattle.std.proofs.Common.{arith, ◌≡◌, ◌∙◌, sym, ap, true, false, get_or, length}
use Rattle.std.proofs.lemmas.List.Edits.{insert_end}
use Rattle.lattice_parts.proofs.PlaceLemmas.{place_at, place_same, place_last}
use Rattle.lattice_parts.proofs.sets.place_of.Goals as goal

pub returns-then-comes_before-2 : goal.returns-then-comes_before-2
returns-then-comes_before-2 g c =
    let lt = g.K.Order.before in
    let x = c.index-items-at.result in
    let e : lt c.args.item.now (get_or c.args.items.now c.loop-at.at x) ≡ true = ap (lt c.args.item.now) (sym c.index-items-at.is) ∙ (sym c.comes_before-in-loop-at.ensures ∙ c.if-comes_before-2.true) in
    (omega arith, place_at lt g.met.K.Order.order c.args.item.now c.args.items.now c.loop-at.at x (λ k l. c.loop-at.invariant k x l) (omega arith) e)

pub returns-in-loop-at : goal.returns-in-loop-at
returns-in-loop-at g c =
    let lt = g.K.Order.before in
    let x = c.index-items-at.result in
    let e : lt c.args.item.now (get_or c.args.items.now c.loop-at.at x) ≡ false = ap (lt c.args.item.now) (sym c.index-items-at.is) ∙ (sym c.comes_before-in-loop-at.ensures ∙ c.if-comes_before-2.false) in
    let f : lt (get_or c.args.items.now c.loop-at.at x) c.args.item.now ≡ false = ap (λ y. lt y c.args.item.now) (sym c.index-items-at.is) ∙ (sym c.comes_before.ensures ∙ c.if-comes_before.false) in
    place_same lt g.met.K.Order.order c.args.item.now c.args.items.now c.loop-at.at x (λ k l. c.loop-at.invariant k x l) (omega arith) e f

pub returns : goal.returns
returns g c =
    let ends : c.loop-at.at ≡ length c.args.items.now = omega arith in
    (omega arith, place_last g.K.Order.before g.met.K.Order.order c.args.item.now c.args.items.now (λ k d h. c.loop-at.invariant k d (omega arith)) ∙ sym (insert_end c.args.items.now c.args.item.now))
