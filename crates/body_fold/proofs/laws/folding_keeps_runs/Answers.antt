use Rattle.body_fold.proofs.Replacing.{fold_replaces, folds_replace, top_folds_replace}
use Rattle.body_fold.proofs.laws.folding_keeps_runs.Goals as goal

pub returns-clause-one : goal.returns-clause-one
returns-clause-one c = fold_replaces

pub returns-clause-all : goal.returns-clause-all
returns-clause-all c = folds_replace

pub returns-clause-top : goal.returns-clause-top
returns-clause-top c = top_folds_replace
