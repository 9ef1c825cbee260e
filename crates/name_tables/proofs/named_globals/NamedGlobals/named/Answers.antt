use Rattle.std.proofs.Common.{◌∙◌, sym}
use Rattle.std.specs.Str.{bytes_eq}
use Rattle.gimple_ir.specs.declared.declarations.Global.{Global}
use Rattle.name_tables.proofs.Naming.{found_there, found_nowhere}
use Rattle.name_tables.proofs.named_globals.NamedGlobals.named.Goals as goal

pub returns-in-Some : goal.returns-in-Some
returns-in-Some c = c.get.ensures ∙ found_there (λ (g : Global). bytes_eq g.decl.name c.args.name.now) c.args.self.now c.in-Some.place (sym c.place.ensures ∙ c.in-Some.is)

pub returns-in-None : goal.returns-in-None
returns-in-None c = sym (found_nowhere (λ (g : Global). bytes_eq g.decl.name c.args.name.now) c.args.self.now (sym c.place.ensures ∙ c.in-None.is))
