use Rattle.std.proofs.Common.{◌∙◌, sym, ap, not, ◌&&◌}
use Rattle.gimple_ir.specs.declared.scalar.Scalar.{Scalar}
use Rattle.gimple_core.specs.Statements as check
use Rattle.body_values.specs.Scenes.{body_in}
use Rattle.body_fold.specs.Fold.{passes}
use Rattle.body_fold.specs.Folders.{folding_in}
use Rattle.body_fold.proofs.Checking.{right_is}
use Rattle.body_fold.proofs.folder.Folder.admits_right.Goals as goal

pub returns : goal.returns
returns c =
    c.admits_integer.ensures
    ∙ (ap (λ (z : Scalar). passes (check.operand (folding_in c.args.self.now).env 4 z c.args.right.now) && not (check.is_pointer z)) c.right_of.ensures
    ∙ sym (right_is c.args.self.now.scene.program.now.program c.args.self.now.function.now (body_in c.args.self.now.scene) c.requires.folder.registers c.args.scalar c.args.op c.args.right.now))
