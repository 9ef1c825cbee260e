use Rattle.std.proofs.Common.{◌<◌, ◌≤◌, ◌^◌, sym, subst, arith}
use Rattle.gimple_ir.specs.Size.{size_of_program}
use Rattle.gimple_core.specs.Replacing.{Replaces}
use Rattle.gimple_core.specs.Sealed.{Sealed}
use Rattle.gimple_core.proofs.ReplacingLaws.{replaces_in_turn}
use Rattle.body_fold.specs.Claims.{FactsHold}
use Rattle.body_fold.proofs.Counted.{fold_size}
use Rattle.body_fold.proofs.Replacing.{folds_replace}
use Rattle.cp_apply.specs.Bases.{base_facts}
use Rattle.cp_apply.proofs.MadeLaws.{done}
use Rattle.cp_apply.proofs.making.materialise.Goals as goal

pub drop_unreached-requires-clause-size : goal.drop_unreached-requires-clause-size
drop_unreached-requires-clause-size g c =
    let p : Sealed = c.args.program.now in
    let size = c.requires.countable.size in
    let small = fold_size p (base_facts c.args.plan.now) c.in_ok-folded.folded.program.functions c.in_ok-folded.ensures.folds in
    subst (λ (q : Sealed). size_of_program q.program < 2 ^ 32) (sym c.in_ok-folded.ensures.rest) (omega (arith, small, size))

pub returns-clause-replaces : goal.returns-clause-replaces
returns-clause-replaces g c =
    let p : Sealed = c.args.program.now in
    let folded : Sealed = c.in_ok-folded.folded in
    done (Replaces 1 folded) (λ after. FactsHold p (base_facts c.args.plan.now) → Replaces 1 p after) c.drop_unreached.result c.drop_unreached.ensures.replaces
    (λ after then hold. replaces_in_turn 1 1 p folded after
    (subst (Replaces 1 p) (sym c.in_ok-folded.ensures.rest) (folds_replace p (base_facts c.args.plan.now) folded.program.functions c.in_ok-folded.ensures.folds hold)) then)

pub returns-clause-shrinks : goal.returns-clause-shrinks
returns-clause-shrinks g c =
    let p : Sealed = c.args.program.now in
    let folded : Sealed = c.in_ok-folded.folded in
    let small : size_of_program folded.program ≤ size_of_program p.program =
    subst (λ (q : Sealed). size_of_program q.program ≤ size_of_program p.program) (sym c.in_ok-folded.ensures.rest) (fold_size p (base_facts c.args.plan.now) folded.program.functions c.in_ok-folded.ensures.folds) in
    done (λ (after : Sealed). size_of_program after.program ≤ size_of_program folded.program) (λ (after : Sealed). size_of_program after.program ≤ size_of_program p.program) c.drop_unreached.result c.drop_unreached.ensures.shrinks
    (λ after less. omega (arith, less, small))
