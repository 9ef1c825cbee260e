use Rattle.std.proofs.Common.{◌∙◌, ap, List}
use Rattle.std.specs.List.{position}
use Rattle.std.specs.Str.{bytes_eq}
use Rattle.gimple_ir.specs.declared.declarations.Decl.{Decl}
use Rattle.name_tables.proofs.Naming.{place_in}
use Rattle.name_tables.proofs.named_locals.NamedLocals.place.Goals as goal

pub returns : goal.returns
returns c =
    place_in (λ (d : Decl). d.name) c.self.inside.locals.now c.self.inside.names c.as_slice.result.now c.args.name.now c.place.result c.self.invariant c.as_slice.ensures c.place.ensures
    ∙ ap (λ (ds : List Decl). position (λ d. bytes_eq d.name c.args.name.now) ds) c.self.view_is
