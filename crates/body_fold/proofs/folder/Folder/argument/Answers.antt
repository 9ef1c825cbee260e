use Rattle.std.proofs.Common.{◌≡◌, ◌∙◌, sym, ap, subst, IfOk}
use Rattle.std.specs.Option.{option_copied}
use Rattle.gimple_core.specs.Statements as check
use Rattle.body_fold.specs.Fold.{constant_for, folded_operand}
use Rattle.body_fold.specs.Folders.{folding_in}
use Rattle.body_fold.specs.Putting.{argument_of}
use Rattle.body_fold.proofs.Checking.{put_same}
use Rattle.body_fold.proofs.folder.Folder.argument.Goals as goal

pub returns-in-Some : goal.returns-in-Some
returns-in-Some c =
    let same : argument_of (folding_in c.args.self.now) c.args.row.now (option_copied c.args.formal) c.args.argument.now ≡ folded_operand (folding_in c.args.self.now) c.args.row.now (check.operand (folding_in c.args.self.now).env 4 c.in-Some.scalar.now) c.args.argument.now =
    ap (λ o. argument_of (folding_in c.args.self.now) c.args.row.now (option_copied o) c.args.argument.now) c.in-Some.is
    ∙ sym (put_same (folding_in c.args.self.now).env 6 c.in-Some.scalar.now c.args.argument.now (constant_for (folding_in c.args.self.now).body c.args.row.now c.args.argument.now)) in
    subst (λ z. IfOk c.operand.result (λ y. y ≡ z)) (sym same) c.operand.ensures
