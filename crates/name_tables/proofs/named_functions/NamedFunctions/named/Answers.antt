use Rattle.std.proofs.Common.{◌∙◌, ap, sym, List, slice_get}
use Rattle.std.specs.Str.{bytes_eq}
use Rattle.gimple_ir.specs.declared.program.Function.{Function}
use Rattle.name_tables.proofs.Naming.{found_there, found_nowhere, lent}
use Rattle.name_tables.proofs.named_functions.NamedFunctions.named.Goals as goal

pub returns-in-Some : goal.returns-in-Some
returns-in-Some c =
    lent c.self.inside.functions.now c.in-Some.place c.get.result c.get.ensures.lookup
    ∙ ap (λ (fs : List Function). slice_get fs c.in-Some.place) c.self.view_is
    ∙ found_there (λ (f : Function). bytes_eq f.name c.args.name.now) c.args.self.now c.in-Some.place (sym c.place.ensures ∙ c.in-Some.is)

pub returns-in-None : goal.returns-in-None
returns-in-None c = sym (found_nowhere (λ (f : Function). bytes_eq f.name c.args.name.now) c.args.self.now (sym c.place.ensures ∙ c.in-None.is))
