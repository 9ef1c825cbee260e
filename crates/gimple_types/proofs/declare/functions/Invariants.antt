use Rattle.std.proofs.Common.{◌≡◌, ◌+◌, ◌<◌, ◌^◌, length}
use Rattle.std.specs.List.{All}
use Rattle.gimple_ir.specs.declared.program.Function.{Function}
use Rattle.gimple_ir.specs.Size.{size_of_function}
use Rattle.gimple_types.specs.Seen.{known_of}
use Rattle.gimple_core.specs.Declarations as spec
use Rattle.gimple_types.proofs.declare.functions.Given as goal

abbrev pub invariant-loop-rest : goal.invariant-loop-rest
invariant-loop-rest l = (l.number + length l.rest < 2 ^ 32) × All (λ (f : Function). size_of_function f < 2 ^ 32) l.rest × (spec.functions (known_of l.fn.known) l.fn.known.functions 0 l.fn.items ≡ spec.functions (known_of l.fn.known) l.fn.known.functions l.number l.rest)

abbrev pub decreases-loop-rest : goal.decreases-loop-rest
decreases-loop-rest l = length l.rest
