use Rattle.std.proofs.Common.{arith, length, ap, ◌∷◌, [], length-append}
use Rattle.std.proofs.lemmas.Option.{slice_get-get_or}
use Rattle.partition_refinement.proofs.FirstLemmas.{name_more}
use Rattle.partition_refinement.proofs.naming.named.Goals as goal

pub loop-item-preserved : goal.loop-item-preserved
loop-item-preserved c =
    let have = c.loop-item.invariant in
    let count = have.count in
    let here = slice_get-get_or c.args.classes.now c.loop-item.item 0 c.loop-item-test.true in
    let step = c.in_ok-first_of.ensures c.args.classes.now here have.firsts in
    let more = length-append c.loop-item.names.items (c.in_ok-first_of.field-0 ∷ []) in
    let size = ap length c.in_ok-push.ensures.items in
    record {
      firsts = step.0;
      count = omega (arith, size, more, count);
      each = rw c.in_ok-push.ensures.items (name_more c.args.classes.now c.loop-item.names.items c.loop-item.item c.in_ok-first_of.field-0 count have.each step.1);
    }
