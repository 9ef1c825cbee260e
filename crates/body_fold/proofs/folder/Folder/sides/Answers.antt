use Rattle.std.proofs.Common.{rules, ◌≡◌, ◌∙◌, None, Some}
use Rattle.gimple_core.specs.Statements as check
use Rattle.body_fold.specs.Fold.{constant_for}
use Rattle.body_fold.specs.Folders.{folding_in}
use Rattle.body_fold.specs.Putting.{put_in}
use Rattle.body_fold.proofs.PutIn.{right_put, left_put}
use Rattle.body_fold.proofs.folder.Folder.sides.Goals as goal

pub returns-in_ok-copy-in-Some-clause-left : goal.returns-in_ok-copy-in-Some-clause-left
returns-in_ok-copy-in-Some-clause-left c =
    let put : put_in (λ y. check.compared (folding_in c.args.self.now).env c.args.left.now c.args.cmp y) (constant_for (folding_in c.args.self.now).body c.args.row.now c.args.right.now) ≡ Some c.in-Some.constant = search rules in
    c.in_ok-copy-in-Some.ensures ∙ (right_put (folding_in c.args.self.now) c.args.row.now c.args.left.now c.args.cmp c.args.right.now c.in-Some.constant put).left_side

pub returns-in_ok-copy-in-Some-clause-right : goal.returns-in_ok-copy-in-Some-clause-right
returns-in_ok-copy-in-Some-clause-right c =
    let put : put_in (λ y. check.compared (folding_in c.args.self.now).env c.args.left.now c.args.cmp y) (constant_for (folding_in c.args.self.now).body c.args.row.now c.args.right.now) ≡ Some c.in-Some.constant = search rules in
    (right_put (folding_in c.args.self.now) c.args.row.now c.args.left.now c.args.cmp c.args.right.now c.in-Some.constant put).right_side

pub returns-in_ok-copy-in-None-clause-left : goal.returns-in_ok-copy-in-None-clause-left
returns-in_ok-copy-in-None-clause-left c =
    let put : put_in (λ y. check.compared (folding_in c.args.self.now).env c.args.left.now c.args.cmp y) (constant_for (folding_in c.args.self.now).body c.args.row.now c.args.right.now) ≡ None = search rules in
    (left_put (folding_in c.args.self.now) c.args.row.now c.args.left.now c.args.cmp c.args.right.now c.in_ok-left_side-in-None.field-0 put c.in_ok-left_side-in-None.ensures).left_side

pub returns-in_ok-copy-in-None-clause-right : goal.returns-in_ok-copy-in-None-clause-right
returns-in_ok-copy-in-None-clause-right c =
    let put : put_in (λ y. check.compared (folding_in c.args.self.now).env c.args.left.now c.args.cmp y) (constant_for (folding_in c.args.self.now).body c.args.row.now c.args.right.now) ≡ None = search rules in
    c.in_ok-copy-in-None.ensures ∙ (left_put (folding_in c.args.self.now) c.args.row.now c.args.left.now c.args.cmp c.args.right.now c.in_ok-left_side-in-None.field-0 put c.in_ok-left_side-in-None.ensures).right_side
