use Rattle.std.proofs.Common.{arith, length, ap, [], ◌∷◌, length-append}
use Rattle.partition_refinement.proofs.Steps.{pair_step}
use Rattle.partition_refinement.proofs.splitting.pairs_of.Goals as goal

pub loop-item-preserved : goal.loop-item-preserved
loop-item-preserved c =
    let count = c.loop-item.invariant.count in
    let size = ap length c.in_ok-note.ensures in
    let more = length-append c.loop-item.pairs (c.in_ok-pair.field-0.items ∷ []) in
    record {
      count = omega (arith, count, size, more);
      each = pair_step c.args.classes.now c.args.plain.now c.loop-item.item c.loop-item.pairs c.note.new.self c.in_ok-pair.field-0.items c.class_of.result c.class_of-in-loop-item.result count c.loop-item.invariant.each c.class_of.ensures c.class_of-in-loop-item.ensures c.in_ok-pair.ensures c.in_ok-note.ensures;
    }
