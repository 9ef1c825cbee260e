use Rattle.std.proofs.Common.{rules, ◌≡◌, ◌∙◌, sym, ap, not, ◌&&◌}
use Rattle.gimple_ir.specs.declared.scalar.Scalar.{Scalar}
use Rattle.gimple_ir.specs.declared.operand.Operand.{Operand}
use Rattle.gimple_core.specs.Statements as check
use Rattle.body_values.specs.Bodies.{source_scalar}
use Rattle.body_values.specs.Scenes.{body_in}
use Rattle.body_fold.specs.Fold.{passes}
use Rattle.body_fold.specs.Folders.{folding_in}
use Rattle.body_fold.proofs.Checking.{printed_register, printed_number, printed_null, printed_address}
use Rattle.body_fold.proofs.folder.Folder.admits_printed.Goals as goal

pub returns-in-Reg : goal.returns-in-Reg
returns-in-Reg c =
    c.admits_integer.ensures
    ∙ (ap (λ (z : Scalar). passes (check.operand (folding_in c.args.self.now).env 4 z c.args.operand.now) && not (check.is_pointer z)) c.source_of.ensures
    ∙ (ap (λ (x : Operand). passes (check.operand (folding_in c.args.self.now).env 4 (source_scalar (body_in c.args.self.now.scene) x) x) && not (check.is_pointer (source_scalar (body_in c.args.self.now.scene) x))) c.in-Reg.is
    ∙ sym (ap (λ (x : Operand). passes (check.printed (folding_in c.args.self.now).env x)) c.in-Reg.is
    ∙ printed_register c.args.self.now.scene.program.now.program c.args.self.now.function.now (body_in c.args.self.now.scene) c.requires.folder.registers c.in-Reg.field-0)))

pub returns-in-Number : goal.returns-in-Number
returns-in-Number c =
    let printable : c.is_printable.result ≡ check.is_printable c.in-Number.value = search rules in
    printable
    ∙ sym (ap (λ (x : Operand). passes (check.printed (folding_in c.args.self.now).env x)) c.in-Number.is ∙ printed_number c.args.self.now.scene.program.now.program c.args.self.now.function.now c.in-Number.value)

pub returns-in-Null : goal.returns-in-Null
returns-in-Null c =
    sym (ap (λ (x : Operand). passes (check.printed (folding_in c.args.self.now).env x)) c.in-Null.is ∙ printed_null c.args.self.now.scene.program.now.program c.args.self.now.function.now)

pub returns-in-Address : goal.returns-in-Address
returns-in-Address c =
    sym (ap (λ (x : Operand). passes (check.printed (folding_in c.args.self.now).env x)) c.in-Address.is ∙ printed_address c.args.self.now.scene.program.now.program c.args.self.now.function.now c.in-Address.variable c.in-Address.offset)
