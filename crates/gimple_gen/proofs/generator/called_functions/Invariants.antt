use Rattle.std.proofs.Common.{◌≡◌, map}
use Rattle.std.specs.List.{range_with_len}
use Rattle.gimple_gen.specs.Generated.{function_of}
use Rattle.gimple_gen.proofs.generator.called_functions.Given as goal

abbrev pub invariant-loop-number : goal.invariant-loop-number
invariant-loop-number l = l.list ≡ map (function_of l.functions) (range_with_len 0 l.number)
