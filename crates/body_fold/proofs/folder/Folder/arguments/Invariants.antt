use Rattle.std.proofs.Common.{◌≡◌, ◌++◌, drop}
use Rattle.body_fold.specs.Fold.{folded_arguments}
use Rattle.body_fold.specs.Folders.{folding_in}
use Rattle.body_fold.proofs.folder.Folder.arguments.Given as goal

abbrev pub invariant-loop-place : goal.invariant-loop-place
invariant-loop-place l =
    l.folded ++ folded_arguments (folding_in l.fn.self) l.fn.row (drop l.place l.fn.formals) (drop l.place l.fn.arguments) ≡ folded_arguments (folding_in l.fn.self) l.fn.row l.fn.formals l.fn.arguments
