use Rattle.std.proofs.Common.{arith, length, map, ap, refl, [], ◌∷◌, get_or, length-append}
use Rattle.std.proofs.lemmas.List.Elements.{Contains-get_or}
use Rattle.partition_refinement.proofs.Steps.{row_value, key_step}
use Rattle.partition_refinement.proofs.groups.numbers_of.Goals as goal

pub bounds-rows-item : goal.bounds-rows-item
bounds-rows-item c = c.requires.within (get_or c.args.items.now c.loop-item.item-index 0) (Contains-get_or c.args.items.now c.loop-item.item-index 0 c.loop-item-test.true)

pub loop-item-preserved : goal.loop-item-preserved
loop-item-preserved c =
    let low = c.requires.within (get_or c.args.items.now c.loop-item.item-index 0) (Contains-get_or c.args.items.now c.loop-item.item-index 0 c.loop-item-test.true) in
    let row = row_value (λ row. row.items) c.args.rows.now (get_or c.args.items.now c.loop-item.item-index 0) c.index-rows-item.result c.as_slice-row.result.now low c.index-rows-item.is c.as_slice-row.ensures.value in
    let count = c.loop-item.invariant.count in
    let size = ap length c.in_ok-note.ensures in
    let more = length-append c.loop-item.keys (c.in_ok-key.field-0.items ∷ []) in
    record {
      count = omega (arith, count, size, more);
      each = key_step c.args.classes.now (map (λ row. row.items) c.args.rows.now) c.args.items.now c.loop-item.item-index (get_or c.args.items.now c.loop-item.item-index 0) c.loop-item.keys c.note.new.self c.in_ok-key.field-0.items c.as_slice-row.result.now count c.loop-item.invariant.each refl row c.in_ok-key.ensures c.in_ok-note.ensures;
    }
