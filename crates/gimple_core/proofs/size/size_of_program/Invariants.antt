use Rattle.std.proofs.Common.{◌≡◌, take}
use Rattle.std.specs.Prelude.{sum_by}
use Rattle.gimple_ir.specs.Size.{size_of_function}
use Rattle.gimple_core.proofs.size.size_of_program.Given as goal

abbrev pub invariant-loop-function : goal.invariant-loop-function
invariant-loop-function l = l.size ≡ sum_by size_of_function (take l.function-index l.program.functions)
