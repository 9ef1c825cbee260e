use Rattle.std.proofs.Common.{◌∙◌, ap, sym, arith, rules}
use Rattle.std.proofs.lemmas.List.Sorted.{IsPartitionPoint-from_clause}
use Rattle.gimple_exec.specs.Order.{comes_before}
use Rattle.gimple_exec.proofs.OrderLemmas.{ordered_parts, place_there, place_nowhere, place_nowhere_at}
use Rattle.gimple_exec.proofs.SeekLemmas.{placed_seeks}
use Rattle.gimple_exec.proofs.rows.place_by_halves.Goals as goal

pub returns-then-at-items : goal.returns-then-at-items
returns-then-at-items g c =
    let before = comes_before g.T.Placed.object_of g.T.Placed.offset_of in
    let t = c.args.sought.now in
    let seeks = placed_seeks g.T.Placed.object_of g.T.Placed.offset_of g.T.Placed.matches g.met.T.Placed.matches_there t in
    let point = IsPartitionPoint-from_clause (λ x. before x t) _ _ c.partition_point-at.ensures.partitioned (ordered_parts before seeks.chains t _ c.requires) (λ a r f k. search rules) in
    place_nowhere before t (g.T.Placed.matches t) seeks c.args.items.now c.partition_point-at.result c.requires point (λ d l. absurd (omega (arith, l, c.if-at-items.true)))

pub returns-then-matches : goal.returns-then-matches
returns-then-matches g c =
    let before = comes_before g.T.Placed.object_of g.T.Placed.offset_of in
    let t = c.args.sought.now in
    let seeks = placed_seeks g.T.Placed.object_of g.T.Placed.offset_of g.T.Placed.matches g.met.T.Placed.matches_there t in
    let point = IsPartitionPoint-from_clause (λ x. before x t) _ _ c.partition_point-at.ensures.partitioned (ordered_parts before seeks.chains t _ c.requires) (λ a r f k. search rules) in
    place_there before t (g.T.Placed.matches t) seeks c.args.items.now c.partition_point-at.result c.index-items-at.result point (omega (arith, c.if-at-items.false)) (ap (g.T.Placed.matches t) (sym c.index-items-at.is) ∙ sym c.matches.ensures ∙ c.if-matches.true)

pub returns : goal.returns
returns g c =
    let before = comes_before g.T.Placed.object_of g.T.Placed.offset_of in
    let t = c.args.sought.now in
    let seeks = placed_seeks g.T.Placed.object_of g.T.Placed.offset_of g.T.Placed.matches g.met.T.Placed.matches_there t in
    let point = IsPartitionPoint-from_clause (λ x. before x t) _ _ c.partition_point-at.ensures.partitioned (ordered_parts before seeks.chains t _ c.requires) (λ a r f k. search rules) in
    place_nowhere_at before t (g.T.Placed.matches t) seeks c.args.items.now c.partition_point-at.result c.index-items-at.result c.requires point (omega (arith, c.if-at-items.false)) (ap (g.T.Placed.matches t) (sym c.index-items-at.is) ∙ sym c.matches.ensures ∙ c.if-matches.false)
