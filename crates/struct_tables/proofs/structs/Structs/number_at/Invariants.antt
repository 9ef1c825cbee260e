use Rattle.std.proofs.Common.{◌≡◌, ◌+◌, ◌<◌, ◌^◌, length}
use Rattle.gimple_core.specs.Layout.{decl_layout, layout_of}
use Rattle.struct_tables.specs.Sizes.{first_layouts}
use Rattle.struct_tables.specs.Slots.{counted_from, number_at}
use Rattle.struct_tables.proofs.structs.Structs.number_at.Given as goal

abbrev pub invariant-loop-own : goal.invariant-loop-own
invariant-loop-own l = record {
  room : l.ahead + length (decl_layout (first_layouts l.bound l.fn.self) l.decl).slots < 2 ^ 127;
  same : number_at (layout_of l.fn.self l.fn.decl).slots l.fn.offset l.fn.scalar ≡ counted_from l.ahead (number_at (decl_layout (first_layouts l.bound l.fn.self) l.decl).slots l.offset l.fn.scalar);
}

abbrev pub decreases-loop-own : goal.decreases-loop-own
decreases-loop-own l = l.bound
