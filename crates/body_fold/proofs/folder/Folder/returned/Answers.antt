use Rattle.std.proofs.Common.{◌∙◌, sym, ap, Some}
use Rattle.gimple_ir.specs.declared.block.End.TheVariants.{Return}
use Rattle.body_fold.specs.Folders.{folding_in}
use Rattle.body_fold.proofs.Ending.{returned_scalar, returned_none}
use Rattle.body_fold.proofs.folder.Folder.returned.Goals as goal

pub returns-in_ok-operand-in-Some : goal.returns-in_ok-operand-in-Some
returns-in_ok-operand-in-Some c =
    ap (λ y. Return (Some y)) c.in_ok-operand-in-Some.ensures ∙ sym (returned_scalar (folding_in c.args.self.now) c.args.row.now c.args.value.now c.in-Some.scalar c.in-Some.is)

pub returns-in_ok-copy-in-None : goal.returns-in_ok-copy-in-None
returns-in_ok-copy-in-None c =
    ap (λ y. Return (Some y)) c.in_ok-copy-in-None.ensures ∙ sym (returned_none (folding_in c.args.self.now) c.args.row.now c.args.value.now c.in-None.is)
