use Rattle.std.proofs.Common.{◌≡◌, ◌≤◌, [], ◌++◌, length}
use Rattle.gimple_core.specs.Layout.{empty_layout, struct_layouts}
use Rattle.struct_tables.specs.Sizes.{extent_of, extent_after, field_starts, slots_before}
use Rattle.struct_tables.proofs.structs.Structs.of_fields.Given as goal

abbrev pub invariant-loop-rest : goal.invariant-loop-rest
invariant-loop-rest l = record {
  size : l.whole.size ≤ 16777216;
  dense : l.whole.slots ≤ l.whole.size;
  least : 1 ≤ l.whole.align;
  most : l.whole.align ≤ 8;
  extent : extent_after (struct_layouts [] l.fn.self) (extent_of empty_layout) l.fn.fields ≡ extent_after (struct_layouts [] l.fn.self) l.whole l.rest;
  offsets : l.fn.starts.offsets.items ++ field_starts (struct_layouts [] l.fn.self) 0 l.fn.fields ≡ l.starts.offsets.items ++ field_starts (struct_layouts [] l.fn.self) l.whole.size l.rest;
  slots : l.fn.starts.slots.items ++ slots_before (struct_layouts [] l.fn.self) 0 l.fn.fields ≡ l.starts.slots.items ++ slots_before (struct_layouts [] l.fn.self) l.whole.slots l.rest;
}

abbrev pub decreases-loop-rest : goal.decreases-loop-rest
decreases-loop-rest l = length l.rest
