use Rattle.std.proofs.Common.{◌≡◌, ◌∙◌, sym, ap, is_some}
use Rattle.std.specs.List.{find}
use Rattle.std.specs.Option.{option_copied}
use Rattle.std.specs.Str.{bytes_eq}
use Rattle.gimple_ir.specs.declared.program.Function.{Function}
use Rattle.gimple_ir.specs.declared.program.Program.{Program}
use Rattle.gimple_core.specs.Sealed.{Sealed}
use Rattle.body_fold.proofs.Checking.{copied_is, target_there}
use Rattle.body_fold.proofs.folder.Folder.is_target.Goals as goal

pub returns : goal.returns
returns c =
    let program : c.program.result.now ≡ c.args.self.now.scene.program.now.program = c.program.ensures.same ∙ ap (λ (p : Sealed). p.program) c.requires.folder.tables in
    let two : c.args.self.now.scene.program.now.program.profile ≡ 2 = ap (λ (p : Program). p.profile) (sym program) ∙ c.if-program-ne2.false in
    let found : option_copied c.named_function.result ≡ find (λ (f : Function). bytes_eq f.name c.args.name.now) c.args.self.now.scene.program.now.program.functions =
    c.named_function.ensures ∙ ap (λ (p : Sealed). find (λ (f : Function). bytes_eq f.name c.args.name.now) p.program.functions) c.requires.folder.tables in
    let some : c.is_some.result ≡ is_some (option_copied c.named_function.result) = c.is_some.ensures ∙ sym (copied_is c.named_function.result) in
    some ∙ (ap is_some found ∙ target_there c.args.self.now.scene.program.now.program c.args.name.now two)
