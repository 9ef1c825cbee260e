use Rattle.std.proofs.Common.{arith, length, ap}
use Rattle.partition_refinement.proofs.Staging.{keys_count, round_of}
use Rattle.partition_refinement.proofs.refining.round.Goals as goal

pub named-requires : goal.named-requires
named-requires c =
    let shown = ap length c.as_slice.ensures.value in
    let keyed = ap length c.in_ok-keys.ensures in
    let many = keys_count (λ row. row.items) c.args.classes.now 0 c.args.rows.now in
    omega (arith, shown, c.into_classes-numbers.ensures.count, keyed, many, c.requires.few, c.requires.count)

pub returns : goal.returns
returns c = round_of (λ row. row.items) c.args.classes.now c.args.rows.now c.requires.count c.in_ok-keys.keys c.into_classes-numbers.result.items c.as_slice.result.now c.in_ok-names.names.items c.in_ok-keys.ensures c.as_slice.ensures.value c.into_classes-numbers.ensures.count c.into_classes-numbers.ensures.same c.in_ok-names.ensures c.requires.items
