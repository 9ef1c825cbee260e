use Rattle.std.proofs.Common.{◌≡◌, ◌<◌, List, ℕ, [], length, drop, OnOk, sym, ◌∙◌, subst, arith}
use Rattle.std.proofs.lemmas.Grind.{common_steps}
use Rattle.ipa_dumps.proofs.Lines.{one_more_place, no_more_places}
use Rattle.ipa_dumps.proofs.cgraph.push_calls.Goals as goal

pub loop-place-preserved : goal.loop-place-preserved
loop-place-preserved c =
    let p = c.args.program.now in
    let places = c.args.places.now in
    let low : c.loop-place.place-index < length places = c.loop-place-test.true in
    rw (c.in_ok-push_indirect.ensures, c.in_ok-push_edges.ensures, c.split_at.ensures.front, c.split_at.ensures.back, c.edges_before.ensures.count) (one_more_place p places c.loop-place.place-index _ c.loop-place.rest.now c.loop-place.text low ∙ c.loop-place.invariant)

pub returns : goal.returns
returns c =
    let p = c.args.program.now in
    let places = c.args.places.now in
    let all : drop c.loop-place.place-index places ≡ [] = grind (arith, common_steps) in
    let whole = sym (no_more_places p places c.loop-place.place-index c.loop-place.rest.now c.loop-place.text all) ∙ c.loop-place.invariant in
    subst (λ (t : List ℕ). OnOk c.push_edges-2.result (c.push_edges-2.new.text ≡ t)) whole c.push_edges-2.ensures
