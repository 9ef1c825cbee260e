use Rattle.std.proofs.Common.{rules, ◌≡◌, ◌∙◌, ap, refl, sym, true, false, List}
use Rattle.std.specs.List.{list_any}
use Rattle.gimple_ir.specs.declared.declarations.Decl.{Decl}
use Rattle.gimple_ir.specs.declared.declarations.Global.{Global}
use Rattle.std.specs.Str.{bytes_eq}
use Rattle.body_values.specs.Bodies.{is_local}
use Rattle.body_fold.proofs.Checking.{variable_is}
use Rattle.body_fold.proofs.folder.Folder.is_variable.Goals as goal

pub returns-then-has : goal.returns-then-has
returns-then-has c =
    let local : is_local c.args.self.now.function.now.locals c.args.name.now ≡ true = ap (λ (ds : List Decl). is_local ds c.args.name.now) (sym c.requires.folder.locals) ∙ search rules in
    c.if-has.true ∙ sym (variable_is c.args.self.now.scene.program.now.program c.args.self.now.function.now c.args.name.now ∙ rw local refl)

pub returns-else-has : goal.returns-else-has
returns-else-has c =
    let local : is_local c.args.self.now.function.now.locals c.args.name.now ≡ false = ap (λ (ds : List Decl). is_local ds c.args.name.now) (sym c.requires.folder.locals) ∙ search rules in
    let global : c.has-else-has.result ≡ list_any (λ (g : Global). bytes_eq g.decl.name c.args.name.now) c.args.self.now.scene.program.now.program.globals =
    c.has-else-has.ensures ∙ ap (λ (gs : List Global). list_any (λ (g : Global). bytes_eq g.decl.name c.args.name.now) gs) c.requires.folder.globals in
    global ∙ sym (variable_is c.args.self.now.scene.program.now.program c.args.self.now.function.now c.args.name.now ∙ rw local refl)
