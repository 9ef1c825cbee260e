use Rattle.std.proofs.Common.{map, subst}
use Rattle.partition_refinement.specs.Stages.{IsStage, IsRound}
use Rattle.partition_refinement.proofs.Staging.{first_stage, stages, differ, same_lists, last_stage}
use Rattle.partition_refinement.proofs.Ending.{left_from, less_then, stage_less, stage_no_more}
use Rattle.partition_refinement.proofs.refining.refine.Goals as goal

pub loop-classes-init : goal.loop-classes-init
loop-classes-init c = first_stage c.args.first.now (map (λ row. row.items) c.args.rows.now) c.in_ok-classes.classes.items c.in_ok-classes.ensures

pub loop-classes-smaller : goal.loop-classes-smaller
loop-classes-smaller c =
    let split = subst (λ cs. IsStage cs (map (λ row. row.items) c.args.rows.now) c.in_ok-parts.parts.items) c.as_slice.ensures.value c.in_ok-parts.ensures in
    let before = stages c.args.first.now (map (λ row. row.items) c.args.rows.now) c.loop-classes.classes.items c.in_ok-parts.parts.items c.loop-classes.invariant split in
    let round = subst (λ cs. IsRound cs (map (λ row. row.items) c.args.rows.now) c.in_ok-next.next.items) c.as_slice-in-loop-classes.ensures.value c.in_ok-next.ensures in
    less_then (left_from 0 c.in_ok-next.next.items) (left_from 0 c.in_ok-parts.parts.items) (left_from 0 c.loop-classes.classes.items)
    (stage_less c.args.first.now (map (λ row. row.items) c.args.rows.now) c.in_ok-parts.parts.items c.in_ok-next.next.items before round.stage (differ c.in_ok-next.next.items c.in_ok-parts.parts.items c.eq.result c.eq.ensures c.if-eq.false))
    (stage_no_more c.args.first.now (map (λ row. row.items) c.args.rows.now) c.loop-classes.classes.items c.in_ok-parts.parts.items c.loop-classes.invariant split)

pub loop-classes-preserved : goal.loop-classes-preserved
loop-classes-preserved c =
    let split = subst (λ cs. IsStage cs (map (λ row. row.items) c.args.rows.now) c.in_ok-parts.parts.items) c.as_slice.ensures.value c.in_ok-parts.ensures in
    let before = stages c.args.first.now (map (λ row. row.items) c.args.rows.now) c.loop-classes.classes.items c.in_ok-parts.parts.items c.loop-classes.invariant split in
    let round = subst (λ cs. IsRound cs (map (λ row. row.items) c.args.rows.now) c.in_ok-next.next.items) c.as_slice-in-loop-classes.ensures.value c.in_ok-next.ensures in
    stages c.args.first.now (map (λ row. row.items) c.args.rows.now) c.in_ok-parts.parts.items c.in_ok-next.next.items before round.stage

pub returns-then-eq : goal.returns-then-eq
returns-then-eq c =
    let split = subst (λ cs. IsStage cs (map (λ row. row.items) c.args.rows.now) c.in_ok-parts.parts.items) c.as_slice.ensures.value c.in_ok-parts.ensures in
    let before = stages c.args.first.now (map (λ row. row.items) c.args.rows.now) c.loop-classes.classes.items c.in_ok-parts.parts.items c.loop-classes.invariant split in
    let round = subst (λ cs. IsRound cs (map (λ row. row.items) c.args.rows.now) c.in_ok-next.next.items) c.as_slice-in-loop-classes.ensures.value c.in_ok-next.ensures in
    last_stage c.args.first.now (map (λ row. row.items) c.args.rows.now) c.in_ok-parts.parts.items c.in_ok-next.next.items before round (same_lists c.in_ok-next.next.items c.in_ok-parts.parts.items c.eq.result c.eq.ensures c.if-eq.true)
