use Rattle.std.proofs.Common.{◌≡◌, ℕ, ◌<◌, ◌≤◌, List, Contains, length, slice_index, arith, sym, ◌∙◌, subst}
use Rattle.std.proofs.lemmas.List.{get_or_default}
use Rattle.fix_engine.specs.Waiting.{ArePlaces}
use Rattle.fix_engine.proofs.waiting.places_of.Goals as goal

-- where each number of an order has its place, each node does
places_found : (order places : List ℕ) (nodes done : ℕ) → length places ≡ nodes → length order ≡ nodes → length order ≤ done
    → ((n : ℕ) → n < nodes → Contains order n)
    → ((q : ℕ) → q < done → slice_index order q < nodes → slice_index places (slice_index order q) < done)
    → ((q : ℕ) → q < done → slice_index order q < nodes → slice_index order (slice_index places (slice_index order q)) ≡ slice_index order q)
    → done ≤ length order → ArePlaces order places nodes
places_found order places nodes done each once all has in_order node_at few =
    let found : (n : ℕ) → n < nodes → (q : ℕ) × (q < done) × (slice_index order q ≡ n) = λ n h.
    let m = has n h in
    let lt = m.1 in (m.0, omega (arith, lt, all), sym (get_or_default order m.0 n 0 m.1) ∙ m.2) in
    record {
      each = each;
      in_order = λ n h.
          let q = found n h in
          let P : ℕ → Type 0 = λ i. i < nodes → slice_index places i < done in
          let lt = subst P q.2 (in_order q.0 q.1) h in omega (arith, lt, few, once);
      node_at = λ n h.
          let q = found n h in
          let P : ℕ → Type 0 = λ i. i < nodes → slice_index order (slice_index places i) ≡ i in
          subst P q.2 (node_at q.0 q.1) h;
    }

pub returns : goal.returns
returns c =
    let i = c.loop-place.invariant in
    places_found c.args.order.now c.loop-place.places.items c.args.nodes c.loop-place.place i.each c.requires.once (omega arith) c.requires.each i.in_order i.node_at (omega arith)
