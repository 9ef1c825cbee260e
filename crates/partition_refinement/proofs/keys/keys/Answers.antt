use Rattle.std.proofs.Common.{arith, length, ap, ◌∷◌, [], length-append}
use Rattle.partition_refinement.proofs.Staging.{keys_step, keys_all}
use Rattle.partition_refinement.proofs.keys.keys.Goals as goal

pub loop-item-preserved : goal.loop-item-preserved
loop-item-preserved c =
    let count = c.loop-item.invariant.count in
    let more = length-append c.loop-item.keys (c.in_ok-key.field-0.items ∷ []) in
    let size = ap length c.in_ok-note.ensures in
    record {
      made = keys_step (λ row. row.items) c.args.classes.now c.loop-item.item c.args.rows.now c.index-rows-item.result c.loop-item.keys _ c.note.new.self c.in_ok-key.field-0.items c.as_slice.result.now c.loop-item.invariant.made c.loop-item-test.true c.index-rows-item.is c.as_slice.ensures.value c.in_ok-key.ensures c.in_ok-note.ensures;
      count = omega (arith, size, more, count);
    }

pub returns : goal.returns
returns c = keys_all (λ row. row.items) c.args.classes.now c.loop-item.item c.args.rows.now c.loop-item.keys _ c.loop-item.invariant.made c.loop-item-test.false
