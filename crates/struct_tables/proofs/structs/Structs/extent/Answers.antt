use Rattle.std.proofs.Common.{◌∙◌, ap}
use Rattle.gimple_core.specs.Layout.{shape_layout}
use Rattle.struct_tables.specs.Sizes.{extent_of, first_layouts}
use Rattle.struct_tables.proofs.KeptLemmas.{all_first}
use Rattle.struct_tables.proofs.structs.Structs.extent.Goals as goal

pub returns-clause-same : goal.returns-clause-same
returns-clause-same c =
    c.extent_before.ensures.same
    ∙ ap (λ n. extent_of (shape_layout (first_layouts n c.args.self.now) c.args.shape.now)) c.len.ensures.len
    ∙ ap (λ k. extent_of (shape_layout k c.args.shape.now)) (all_first c.args.self.now c.self.inside.map.entries c.self.view_is)
