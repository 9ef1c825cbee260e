use Rattle.std.proofs.Common.{◌≡◌, [], take, false}
use Rattle.std.specs.List.{All, list_any}
use Rattle.std.specs.Str.{bytes_eq}
use Rattle.gimple_core.specs.Layout.{struct_layouts, IsLayout}
use Rattle.gimple_core.proofs.layout.known_layouts.Given as goal

abbrev pub invariant-loop-s : goal.invariant-loop-s
invariant-loop-s l = record {
  made : l.known.items ≡ struct_layouts [] (take l.s-index l.structs);
  none : list_any (λ s. bytes_eq s.name l.name) (take l.s-index l.structs) ≡ false;
  layouts : All (λ k. IsLayout k.layout) l.known.items;
}
