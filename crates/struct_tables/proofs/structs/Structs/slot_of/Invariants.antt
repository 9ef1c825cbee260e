use Rattle.std.proofs.Common.{◌≡◌, ◌+◌, ◌<◌, ◌^◌, slice_get}
use Rattle.gimple_core.specs.Layout.{decl_layout, layout_of}
use Rattle.struct_tables.specs.Sizes.{first_layouts}
use Rattle.struct_tables.specs.Slots.{placed_from}
use Rattle.struct_tables.proofs.structs.Structs.slot_of.Given as goal

abbrev pub invariant-loop-scalar : goal.invariant-loop-scalar
invariant-loop-scalar l = record {
  room : l.ahead + (decl_layout (first_layouts l.bound l.fn.self) l.decl).size < 2 ^ 127;
  same : slice_get (layout_of l.fn.self l.fn.decl).slots l.fn.number ≡ placed_from l.ahead (slice_get (decl_layout (first_layouts l.bound l.fn.self) l.decl).slots l.index);
}

abbrev pub decreases-loop-scalar : goal.decreases-loop-scalar
decreases-loop-scalar l = l.bound
