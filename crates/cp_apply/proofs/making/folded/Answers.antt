use Rattle.std.proofs.Common.{Some, subst}
use Rattle.gimple_core.specs.Sealed.{Sealed}
use Rattle.value_domain.specs.Thresholds.{thresholds_list}
use Rattle.body_values.specs.declared.facts.Facts.{Facts}
use Rattle.body_values.specs.Found.{AreFound, OfFunction}
use Rattle.body_fold.specs.Claims.{FoldsTo}
use Rattle.body_fold.specs.Folders.{IsFoldOf}
use Rattle.cp_apply.specs.Bases.{context_facts}
use Rattle.cp_apply.proofs.MadeLaws.{done, folds_to}
use Rattle.cp_apply.proofs.making.folded.Goals as goal

pub returns : goal.returns
returns g c =
    let p : Sealed = c.args.tables.now.program in
    let n = c.args.number in
    let facts : Facts = context_facts c.args.context.now in
    let found = subst (λ (x : Facts). OfFunction p.program n (λ f. AreFound p n f x (record { size = c.args.tables.now.size; ends = thresholds_list p.program }) c.in_ok-values.values)) c.in_ok-facts.ensures c.in_ok-values.ensures.values in
    done (IsFoldOf p n c.in_ok-values.values) (λ x. OfFunction p.program n (λ f. FoldsTo p n f x (Some facts))) c.fold_in.result c.fold_in.ensures.folded
    (λ x is. folds_to p n c.args.tables.now.size facts c.in_ok-values.values x c.requires.accepted is c.requires.fit found)
