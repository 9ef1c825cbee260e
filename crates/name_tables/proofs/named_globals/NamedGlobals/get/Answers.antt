use Rattle.std.proofs.Common.{◌∙◌, ap, List, slice_get}
use Rattle.gimple_ir.specs.declared.declarations.Global.{Global}
use Rattle.name_tables.proofs.Naming.{lent}
use Rattle.name_tables.proofs.named_globals.NamedGlobals.get.Goals as goal

pub returns : goal.returns
returns c =
    lent c.self.inside.globals.now c.args.place c.get.result c.get.ensures.lookup
    ∙ ap (λ (gs : List Global). slice_get gs c.args.place) c.self.view_is
