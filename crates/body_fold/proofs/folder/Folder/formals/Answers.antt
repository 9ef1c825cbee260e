use Rattle.std.proofs.Common.{rules, ◌≡◌, ◌∙◌, sym, ap, subst, None, Some, IfOk}
use Rattle.std.specs.List.{find}
use Rattle.gimple_ir.specs.declared.program.Function.{Function}
use Rattle.gimple_core.specs.Sealed.{Sealed}
use Rattle.std.specs.Str.{bytes_eq}
use Rattle.gimple_core.specs.Env.{named}
use Rattle.gimple_core.specs.Statements as check
use Rattle.gimple_core.proofs.EnvLemmas.{named_find}
use Rattle.body_fold.specs.Fold.{formals_of}
use Rattle.body_fold.specs.Folders.{folding_in}
use Rattle.body_fold.proofs.folder.Folder.formals.Goals as goal

pub returns-in-Some : goal.returns-in-Some
returns-in-Some c =
    let there : find (λ (f : Function). bytes_eq f.name c.args.callee.now) c.args.self.now.tables.now.program.program.functions ≡ Some c.in-Some.function.now = search rules in
    let found = subst (λ (p : Sealed). find (λ (f : Function). bytes_eq f.name c.args.callee.now) p.program.functions ≡ Some c.in-Some.function.now) c.requires.folder.tables there in
    let same : formals_of (named c.args.callee.now (folding_in c.args.self.now).names) ≡ check.scalars_of c.as_slice.result.now =
    ap formals_of (named_find (λ (f : Function). f.name) c.args.callee.now c.args.self.now.scene.program.now.program.functions ∙ found) ∙ ap check.scalars_of (sym c.as_slice.ensures) in
    subst (λ z. IfOk c.scalars_of.result (λ ss. ss ≡ z)) (sym same) c.scalars_of.ensures

pub returns-in-None : goal.returns-in-None
returns-in-None c =
    let there : find (λ (f : Function). bytes_eq f.name c.args.callee.now) c.args.self.now.tables.now.program.program.functions ≡ None = search rules in
    let found = subst (λ (p : Sealed). find (λ (f : Function). bytes_eq f.name c.args.callee.now) p.program.functions ≡ None) c.requires.folder.tables there in
    c.new.ensures ∙ sym (ap formals_of (named_find (λ (f : Function). f.name) c.args.callee.now c.args.self.now.scene.program.now.program.functions ∙ found))
