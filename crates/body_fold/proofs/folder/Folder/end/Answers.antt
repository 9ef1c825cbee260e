use Rattle.body_fold.specs.Folders.{folding_in}
use Rattle.body_fold.proofs.Ending.{branch_compared}
use Rattle.body_fold.proofs.folder.Folder.end.Goals as goal

pub branch-self-requires-clause-passes : goal.branch-self-requires-clause-passes
branch-self-requires-clause-passes c = branch_compared (folding_in c.args.self.now).env c.args.end.now c.in-If.left c.in-If.cmp c.in-If.right _ _ c.requires.passes c.in-If.is
