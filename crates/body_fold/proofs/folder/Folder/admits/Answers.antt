use Rattle.std.proofs.Common.{rules, ◌≡◌, ◌∙◌, refl, sym, ap, not, true, false, None, Some}
use Rattle.std.specs.List.{find}
use Rattle.gimple_ir.specs.declared.declarations.Register.{Register}
use Rattle.gimple_ir.specs.declared.operand.Operand.{Operand}
use Rattle.std.specs.Str.{bytes_eq}
use Rattle.gimple_core.specs.Operators.{in_scalar}
use Rattle.gimple_core.specs.Statements as check
use Rattle.body_fold.specs.Fold.{passes}
use Rattle.body_fold.specs.Folders.{folding_in}
use Rattle.body_fold.specs.Putting.{address_passes}
use Rattle.body_fold.proofs.Checking.{number_is, null_is, address_is, found_passes, lost_fails}
use Rattle.body_fold.proofs.folder.Folder.admits.Goals as goal

pub returns-in-Some : goal.returns-in-Some
returns-in-Some c =
    let found : find (λ (r : Register). bytes_eq r.name c.in-Reg.name) c.args.self.now.scene.registers.now ≡ Some c.in-Some.register.now = search rules in
    c.same_scalar.ensures
    ∙ sym (ap (λ (x : Operand). passes (check.operand (folding_in c.args.self.now).env 4 c.args.scalar x)) c.in-Reg.is
    ∙ found_passes c.args.self.now.scene.program.now.program c.args.self.now.function.now c.args.self.now.scene.registers.now c.args.scalar c.in-Reg.name c.in-Some.register.now c.requires.folder.registers found)

pub returns-in-None : goal.returns-in-None
returns-in-None c =
    let found : find (λ (r : Register). bytes_eq r.name c.in-Reg.name) c.args.self.now.scene.registers.now ≡ None = search rules in
    sym (ap (λ (x : Operand). passes (check.operand (folding_in c.args.self.now).env 4 c.args.scalar x)) c.in-Reg.is
    ∙ lost_fails c.args.self.now.scene.program.now.program c.args.self.now.function.now c.args.self.now.scene.registers.now c.args.scalar c.in-Reg.name c.requires.folder.registers found)

pub returns-then-not-pointer : goal.returns-then-not-pointer
returns-then-not-pointer c =
    let plain : check.is_pointer c.args.scalar ≡ false = search rules in
    let fits : c.fits.result ≡ in_scalar c.args.scalar c.in-Number.value = search rules in
    fits
    ∙ sym (ap (λ (x : Operand). passes (check.operand (folding_in c.args.self.now).env 4 c.args.scalar x)) c.in-Number.is
    ∙ (number_is (folding_in c.args.self.now).env 4 c.args.scalar c.in-Number.value ∙ rw plain refl))

pub returns-else-not-pointer : goal.returns-else-not-pointer
returns-else-not-pointer c =
    let pointer : check.is_pointer c.args.scalar ≡ true = search rules in
    let result : c.pointer.result ≡ true = search rules in
    ap not result
    ∙ sym (ap (λ (x : Operand). passes (check.operand (folding_in c.args.self.now).env 4 c.args.scalar x)) c.in-Number.is
    ∙ (number_is (folding_in c.args.self.now).env 4 c.args.scalar c.in-Number.value ∙ rw pointer refl))

pub returns-in-Null : goal.returns-in-Null
returns-in-Null c =
    c.pointer-in-Null.ensures
    ∙ sym (ap (λ (x : Operand). passes (check.operand (folding_in c.args.self.now).env 4 c.args.scalar x)) c.in-Null.is ∙ null_is (folding_in c.args.self.now).env 4 c.args.scalar)

pub returns-then-pointer : goal.returns-then-pointer
returns-then-pointer c =
    let pointer : check.is_pointer c.args.scalar ≡ true = search rules in
    let passed : c.admits_address.result ≡ address_passes (folding_in c.args.self.now).env c.in-Address.variable c.in-Address.offset = search rules in
    passed
    ∙ sym (ap (λ (x : Operand). passes (check.operand (folding_in c.args.self.now).env 4 c.args.scalar x)) c.in-Address.is
    ∙ (address_is (folding_in c.args.self.now).env 4 c.args.scalar c.in-Address.variable c.in-Address.offset ∙ rw pointer refl))

pub returns-else-pointer : goal.returns-else-pointer
returns-else-pointer c =
    let plain : check.is_pointer c.args.scalar ≡ false = search rules in
    let result : c.pointer-in-Address.result ≡ false = search rules in
    result
    ∙ sym (ap (λ (x : Operand). passes (check.operand (folding_in c.args.self.now).env 4 c.args.scalar x)) c.in-Address.is
    ∙ (address_is (folding_in c.args.self.now).env 4 c.args.scalar c.in-Address.variable c.in-Address.offset ∙ rw plain refl))
