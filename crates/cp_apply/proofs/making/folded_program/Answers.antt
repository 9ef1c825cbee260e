use Rattle.std.proofs.Common.{length, sym, ap, ◌∙◌, subst}
use Rattle.gimple_ir.specs.declared.program.Program.{Program}
use Rattle.gimple_core.specs.Accepted.{IsAccepted}
use Rattle.gimple_core.specs.Sealed.{Sealed}
use Rattle.body_fold.specs.Claims.{FoldsAll}
use Rattle.body_fold.proofs.Accepted.{folds_are_accepted}
use Rattle.cp_apply.specs.Bases.{base_facts, FoldsFirst}
use Rattle.cp_apply.proofs.MadeLaws.{all_of_first}
use Rattle.cp_apply.proofs.making.folded_program.Goals as goal

pub folded_functions-requires-clause-accepted : goal.folded_functions-requires-clause-accepted
folded_functions-requires-clause-accepted g c =
    subst (λ (p : Sealed). IsAccepted p.program) (sym (ap (λ t. t.program) c.in_ok-tables.ensures)) c.program-source.ensures.accepted

pub seal_as-requires : goal.seal_as-requires
seal_as-requires g c =
    let p : Sealed = c.args.program.now in
    let most = c.args.limits.now.ipa_cp_value_list_size in
    let first = subst (λ (t : Sealed). FoldsFirst t (base_facts c.args.plan.now) (length c.args.plan.now.bases) c.in_ok-functions.functions) (ap (λ t. t.program) c.in_ok-tables.ensures) c.in_ok-functions.ensures in
    let folds = all_of_first p most c.args.plan.now c.in_ok-functions.functions c.program-source.ensures.accepted c.requires.fits first in
    subst IsAccepted (sym (c.in_ok-folded.ensures ∙ ap (λ (q : Program). record q { functions = c.in_ok-functions.functions }) c.program-source.ensures.same)) (folds_are_accepted p (base_facts c.args.plan.now) c.in_ok-functions.functions folds)

pub returns-clause-folds : goal.returns-clause-folds
returns-clause-folds g c =
    let p : Sealed = c.args.program.now in
    let most = c.args.limits.now.ipa_cp_value_list_size in
    let first = subst (λ (t : Sealed). FoldsFirst t (base_facts c.args.plan.now) (length c.args.plan.now.bases) c.in_ok-functions.functions) (ap (λ t. t.program) c.in_ok-tables.ensures) c.in_ok-functions.ensures in
    let folds = all_of_first p most c.args.plan.now c.in_ok-functions.functions c.program-source.ensures.accepted c.requires.fits first in
    subst (FoldsAll p (base_facts c.args.plan.now)) (sym (ap (λ (q : Sealed). q.program.functions) c.seal_as.ensures ∙ ap (λ (q : Program). q.functions) c.in_ok-folded.ensures)) folds
