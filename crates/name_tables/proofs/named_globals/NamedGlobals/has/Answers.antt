use Rattle.std.proofs.Common.{◌∙◌, ap, ℕ, Option}
use Rattle.std.specs.Option.{is_some}
use Rattle.std.specs.Str.{bytes_eq}
use Rattle.gimple_ir.specs.declared.declarations.Global.{Global}
use Rattle.name_tables.proofs.Naming.{any_placed}
use Rattle.name_tables.proofs.named_globals.NamedGlobals.has.Goals as goal

pub returns : goal.returns
returns c =
    c.is_some.ensures
    ∙ ap (λ (o : Option ℕ). is_some o) c.place.ensures
    ∙ any_placed (λ (g : Global). bytes_eq g.decl.name c.args.name.now) c.args.self.now
