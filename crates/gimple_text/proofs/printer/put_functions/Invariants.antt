use Rattle.std.proofs.Common.{◌≡◌, ◌++◌, take}
use Rattle.std.specs.List.{flat_map}
use Rattle.gimple_text.specs.Canon.{function_text}
use Rattle.gimple_text.proofs.printer.put_functions.Given as goal

abbrev pub invariant-loop-function : goal.invariant-loop-function
invariant-loop-function l = l.out ≡ l.fn.out ++ flat_map function_text (take l.function-index l.functions)
