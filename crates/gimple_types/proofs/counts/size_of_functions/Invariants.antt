use Rattle.std.proofs.Common.{◌≡◌, ◌+◌, ◌<◌, ◌^◌, length, sum_by}
use Rattle.gimple_ir.specs.Size.{size_of_function}
use Rattle.gimple_types.proofs.counts.size_of_functions.Given as goal

abbrev pub invariant-loop-rest : goal.invariant-loop-rest
invariant-loop-rest l = (l.size < 2 ^ 32) × (l.size + sum_by size_of_function l.rest ≡ sum_by size_of_function l.fn.functions)

abbrev pub decreases-loop-rest : goal.decreases-loop-rest
decreases-loop-rest l = length l.rest
