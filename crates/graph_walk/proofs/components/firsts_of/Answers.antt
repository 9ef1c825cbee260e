use Rattle.std.proofs.Common.{rules, ◌≡◌, ℕ, ◌<◌, List, [], ◌∷◌, ◌++◌, length, subst, arith}
use Rattle.std.specs.List.{Contains}
use Rattle.std.proofs.lemmas.List.Elements.{Contains-append_right}
use Rattle.graph_walk.specs.Components.{ArePlaced}
use Rattle.graph_walk.specs.Search.{IsFinishing}
use Rattle.graph_walk.specs.Walk.{row_at}
use Rattle.graph_walk.proofs.Parting.{here}
use Rattle.graph_walk.proofs.Placing.{met_inside, order_parted, firsts_more, firsts_done}
use Rattle.graph_walk.proofs.components.firsts_of.Goals as goal

root_inside : (out : ℕ → List ℕ) (n : ℕ) (before after : List ℕ) (r : ℕ) → IsFinishing out n (before ++ r ∷ after) → r < n
root_inside out n before after r order = order.nodes r (Contains-append_right before (r ∷ after) r (here r after))

pub walk_past-requires-clause-root : goal.walk_past-requires-clause-root
walk_past-requires-clause-root c =
    let out = row_at c.args.rows.now in
    let n = length c.args.rows.now in
    let (after, order, far) = c.loop-root.invariant in
    let split : c.loop-root.finished.items ≡ c.pop.new.self.items ++ c.in-Some.root ∷ [] = search rules in
    let low = root_inside out n c.pop.new.self.items after c.in-Some.root (order_parted out n c.loop-root.finished.items c.pop.new.self.items after c.in-Some.root split order) in
    omega (arith, low, c.requires.both)

pub walk_past-requires-clause-ends : goal.walk_past-requires-clause-ends
walk_past-requires-clause-ends c = λ a b h. let low = c.requires.back_ends a b h in omega (arith, low, c.requires.both)

pub place_least-requires : goal.place_least-requires
place_least-requires c = λ a h.
    let out = row_at c.args.rows.now in
    let n = length c.args.rows.now in
    let (after, order, far) = c.loop-root.invariant in
    let split : c.loop-root.finished.items ≡ c.pop.new.self.items ++ c.in-Some.root ∷ [] = search rules in
    let root = root_inside out n c.pop.new.self.items after c.in-Some.root (order_parted out n c.loop-root.finished.items c.pop.new.self.items after c.in-Some.root split order) in
    let P : List ℕ → Type 0 = λ xs. Contains xs a in
    let low = met_inside (row_at c.args.back.now) n c.in-Some.root c.loop-root.marks.items c.walk_past.new.marks.items c.in_ok-component.component.items c.requires.back_ends root c.in_ok-component.ensures a
    (subst P c.as_slice.ensures.value h) in
    omega (arith, low, far.one_each)

pub loop-root-preserved : goal.loop-root-preserved
loop-root-preserved c =
    let out = row_at c.args.rows.now in
    let n = length c.args.rows.now in
    let r = c.in-Some.root in
    let (after, order, far) = c.loop-root.invariant in
    let split : c.loop-root.finished.items ≡ c.pop.new.self.items ++ c.in-Some.root ∷ [] = search rules in
    let parted = order_parted out n c.loop-root.finished.items c.pop.new.self.items after r split order in
    let root = root_inside out n c.pop.new.self.items after r parted in
    let P : List ℕ → Type 0 = λ xs. ArePlaced xs c.loop-root.firsts.items c.place_least.new.firsts.items in (
      r ∷ after,
      parted,
      firsts_more out (row_at c.args.back.now) n c.requires.turned c.pop.new.self.items after r parted c.loop-root.marks.items c.loop-root.firsts.items far root c.requires.back_ends
          c.walk_past.new.marks.items c.in_ok-component.component.items c.in_ok-component.ensures c.place_least.new.firsts.items (subst P c.as_slice.ensures.value c.place_least.ensures),
    )

pub returns : goal.returns
returns c =
    let out = row_at c.args.rows.now in
    let n = length c.args.rows.now in
    let (after, order, far) = c.loop-root.invariant in
    let none : c.loop-root.finished.items ≡ [] = search rules in
    let P : List ℕ → Type 0 = λ xs. IsFinishing out n (xs ++ after) in
    firsts_done out n after c.loop-root.marks.items c.loop-root.firsts.items (subst P none order) far
