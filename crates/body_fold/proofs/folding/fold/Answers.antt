use Rattle.std.proofs.Common.{rules}
use Rattle.body_fold.specs.Folders.{IsFoldOf}
use Rattle.body_fold.proofs.Counted.{fold_no_larger}
use Rattle.body_fold.proofs.folding.fold.Goals as goal

pub returns-clause-counts : goal.returns-clause-counts
returns-clause-counts c =
    let folded : IsFoldOf c.args.program.now c.args.function c.args.values.now c.in_ok-folded.folded = search rules in
    fold_no_larger c.args.program.now c.args.function c.args.values.now c.in_ok-folded.folded folded
