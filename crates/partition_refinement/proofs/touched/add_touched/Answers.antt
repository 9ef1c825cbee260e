use Rattle.std.proofs.Common.{refl, subst, Contains, arith}
use Rattle.partition_refinement.specs.Splitting.{Gathers, IsIn}
use Rattle.partition_refinement.proofs.Steps.{touched_step}
use Rattle.partition_refinement.proofs.touched.add_touched.Goals as goal

pub add_callers-requires : goal.add_callers-requires
add_callers-requires c = λ x d.
    let low = (c.in_ok-called.ensures.only x (subst (λ l. Contains l x) c.as_slice.ensures.value d)).0 in
    omega (arith, low, c.requires)

pub loop-class-preserved : goal.loop-class-preserved
loop-class-preserved c = touched_step c.args.partition.now c.args.callers.now c.args.work.now c.loop-class.class-index _ c.args.items.now.keys c.loop-class.items.keys c.add_callers.new.items.keys c.in_ok-called.called.items c.loop-class.invariant c.loop-class-test.true refl c.in_ok-called.ensures (subst (λ l. Gathers (IsIn c.args.callers.now) l c.loop-class.items.keys c.add_callers.new.items.keys) c.as_slice.ensures.value c.in_ok-add_callers.ensures)
