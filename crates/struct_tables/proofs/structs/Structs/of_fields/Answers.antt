use Rattle.std.proofs.Common.{◌<◌, ◌∙◌, [], ap, arith, subst, sym}
use Rattle.gimple_core.specs.Layout.{empty_layout, struct_layouts}
use Rattle.struct_tables.specs.Sizes.{extent_after, extent_with, IsBounded}
use Rattle.struct_tables.specs.declared.structs.Extent.{Extent}
use Rattle.struct_tables.proofs.SolidLemmas.{extent_is, extent_done, extent_above, kept_layouts, lawful_all}
use Rattle.struct_tables.proofs.structs.Structs.of_fields.Goals as goal

pub returns-in-None-clause-extent : goal.returns-in-None-clause-extent
returns-in-None-clause-extent c =
    let known = struct_layouts [] c.args.self.now in
    let lawful = lawful_all known (kept_layouts c.self.inside.map.entries c.args.self.now c.self.view_is c.self.invariant) in
    let whole = c.loop-rest.whole in
    let field : 16777216 < (extent_with known whole c.next-item.result).size = subst (IsBounded (extent_with known whole c.next-item.result)) c.in-None.is c.in_ok-more.ensures.extent in
    let above : 16777216 < (extent_after known whole c.loop-rest.rest.now).size =
    extent_above known whole c.loop-rest.rest.now c.next-item.result 16777216 lawful c.loop-rest.invariant.least c.in-len1-up.len_at_least c.next-item.is field in
    let same = ap (λ (e : Extent). e.size) (extent_is known c.args.fields.now empty_layout ∙ c.loop-rest.invariant.extent) in
    omega (arith, above, same)

pub returns-clause-extent : goal.returns-clause-extent
returns-clause-extent c =
    let known = struct_layouts [] c.args.self.now in
    subst (λ e. IsBounded e c.rounded.result)
    (extent_done known c.loop-rest.whole c.loop-rest.rest.now c.in_default.len_below ∙ sym c.loop-rest.invariant.extent ∙ sym (extent_is known c.args.fields.now empty_layout)) c.rounded.ensures
