use Rattle.body_fold.proofs.Accepted.{folds_are_accepted}
use Rattle.body_fold.proofs.Replacing.{fold_is_accepted, fold_is_spellable}
use Rattle.body_fold.proofs.Spelled.{folds_are_spellable}
use Rattle.body_fold.proofs.laws.folding_keeps_acceptance.Goals as goal

pub returns-clause-accepted : goal.returns-clause-accepted
returns-clause-accepted c = fold_is_accepted

pub returns-clause-spelled : goal.returns-clause-spelled
returns-clause-spelled c = fold_is_spellable

pub returns-clause-all_accepted : goal.returns-clause-all_accepted
returns-clause-all_accepted c = folds_are_accepted

pub returns-clause-all_spelled : goal.returns-clause-all_spelled
returns-clause-all_spelled c = folds_are_spellable
