use Rattle.std.proofs.Common.{arith, map, subst, sym, length, ◌≡◌, ◌∙◌}
use Rattle.partition_refinement.specs.Coarsest.{Below}
use Rattle.partition_refinement.specs.Splitting.{AreCallers}
use Rattle.partition_refinement.proofs.Steps.{row_value, callers_next}
use Rattle.partition_refinement.proofs.callers.callers_of.Goals as goal

pub add_caller-requires : goal.add_caller-requires
add_caller-requires c =
    let row = row_value (λ row. row.items) c.args.rows.now c.loop-item.item c.index-rows-item.result c.as_slice.result.now c.loop-item-test.true c.index-rows-item.is c.as_slice.ensures.value in
    let below : Below (length c.args.rows.now) c.as_slice.result.now = subst (Below (length c.args.rows.now)) (sym row) (c.requires.items c.loop-item.item c.loop-item-test.true) in
    subst (λ n. Below n c.as_slice.result.now) (sym c.loop-item.invariant.count) below

pub loop-item-preserved : goal.loop-item-preserved
loop-item-preserved c =
    let row = row_value (λ row. row.items) c.args.rows.now c.loop-item.item c.index-rows-item.result c.as_slice.result.now c.loop-item-test.true c.index-rows-item.is c.as_slice.ensures.value in
    record {
      callers = callers_next (map (λ row. row.items) c.args.rows.now) c.loop-item.callers c.loop-item.item c.as_slice.result.now c.add_caller.new.callers c.loop-item.invariant.callers c.in_ok-add_caller.ensures row;
      count = c.in_ok-add_caller.ensures.count ∙ c.loop-item.invariant.count;
    }

pub returns-clause-callers : goal.returns-clause-callers
returns-clause-callers c =
    let end = c.loop-item.auto.item-end in
    let last : c.loop-item.item ≡ length c.args.rows.now = omega (arith, end, c.loop-item-test.false) in
    subst (λ n. AreCallers (map (λ row. row.items) c.args.rows.now) n c.loop-item.callers) last c.loop-item.invariant.callers
