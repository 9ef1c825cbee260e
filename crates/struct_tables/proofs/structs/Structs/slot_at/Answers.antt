use Rattle.std.proofs.Common.{◌<◌, ◌^◌, [], sym, arith}
use Rattle.gimple_core.specs.Layout.{struct_layouts, layout_of}
use Rattle.struct_tables.proofs.SolidLemmas.{kept_layouts}
use Rattle.struct_tables.proofs.ListingLemmas.{offset_small}
use Rattle.struct_tables.proofs.structs.Structs.slot_at.Goals as goal

pub overflow_cast-result : goal.overflow_cast-result
unfolding layout_of
overflow_cast-result c =
    let small : c.in-Some.offset < 2 ^ 64 =
    offset_small (struct_layouts [] c.args.self.now) c.args.decl.now c.args.index (record { offset = c.in-Some.offset; scalar = c.in-Some.scalar })
    (kept_layouts c.self.inside.map.entries c.args.self.now c.self.view_is c.self.invariant) c.requires.size (sym c.in-Some.ensures) in
    omega (arith, small)
