use Rattle.std.proofs.Common.{◌∙◌, ap, List}
use Rattle.std.specs.List.{position}
use Rattle.std.specs.Str.{bytes_eq}
use Rattle.gimple_ir.specs.declared.declarations.Global.{Global}
use Rattle.name_tables.proofs.Naming.{place_in}
use Rattle.name_tables.proofs.named_globals.NamedGlobals.place.Goals as goal

pub returns : goal.returns
returns c =
    place_in (λ (g : Global). g.decl.name) c.self.inside.globals.now c.self.inside.names c.as_slice.result.now c.args.name.now c.place.result c.self.invariant c.as_slice.ensures c.place.ensures
    ∙ ap (λ (gs : List Global). position (λ g. bytes_eq g.decl.name c.args.name.now) gs) c.self.view_is
