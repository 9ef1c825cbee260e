use Rattle.std.proofs.Common.{◌∙◌, ap, refl, List}
use Rattle.std.specs.List.{position}
use Rattle.std.specs.Str.{bytes_eq}
use Rattle.gimple_ir.specs.declared.program.Function.{Function}
use Rattle.name_tables.proofs.Naming.{place_in}
use Rattle.name_tables.proofs.named_functions.NamedFunctions.place_of.Goals as goal

pub returns : goal.returns
returns c =
    place_in (λ (f : Function). f.name) c.self.inside.functions.now c.self.inside.names c.args.name.now c.args.name.now c.place.result c.self.invariant refl c.place.ensures
    ∙ ap (λ (fs : List Function). position (λ f. bytes_eq f.name c.args.name.now) fs) c.self.view_is
