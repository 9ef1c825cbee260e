use Rattle.std.proofs.Common.{◌≡◌, ◌++◌, take}
use Rattle.std.specs.List.{flat_map}
use Rattle.gimple_text.specs.Canon.{struct_text}
use Rattle.gimple_text.proofs.printer.put_structs.Given as goal

abbrev pub invariant-loop-def : goal.invariant-loop-def
invariant-loop-def l = l.out ≡ l.fn.out ++ flat_map struct_text (take l.def-index l.structs)
