use Rattle.std.proofs.Common.{◌≡◌, drop}
use Rattle.gimple_core.specs.Layout.{with_fields, empty_layout, IsLayout}
use Rattle.gimple_core.proofs.layout.struct_layout.Given as goal

abbrev pub invariant-loop-field : goal.invariant-loop-field
invariant-loop-field l = record {
  same : with_fields l.known l.layout (drop l.field-index l.fields) ≡ with_fields l.known empty_layout l.fields;
  layout : IsLayout l.layout;
}
