use Rattle.std.proofs.Common.{◌≡◌, ◌++◌, take}
use Rattle.std.specs.List.{flat_map}
use Rattle.gimple_text.specs.Canon.{global_text}
use Rattle.gimple_text.proofs.printer.put_globals.Given as goal

abbrev pub invariant-loop-global : goal.invariant-loop-global
invariant-loop-global l = l.out ≡ l.fn.out ++ flat_map global_text (take l.global-index l.globals)
