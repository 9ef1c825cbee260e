use Rattle.std.proofs.Common.{◌≡◌, ◌++◌, take}
use Rattle.std.specs.List.{flat_map}
use Rattle.gimple_text.specs.Canon.{local_text}
use Rattle.gimple_text.proofs.printer.put_locals.Given as goal

abbrev pub invariant-loop-local : goal.invariant-loop-local
invariant-loop-local l = l.out ≡ l.fn.out ++ flat_map local_text (take l.local-index l.locals)
