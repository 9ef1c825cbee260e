use Rattle.std.proofs.Common.{◌≡◌, ◌<◌, ◌^◌, length}
use Rattle.gimple_tokens.specs.Lexing.{number_after}
use Rattle.gimple_tokens.proofs.scan.value.Given as goal

abbrev pub invariant-loop-rest : goal.invariant-loop-rest
invariant-loop-rest l = (number_after 0 l.digits ≡ number_after l.n l.rest) × (l.n < 2 ^ 64)

abbrev pub decreases-loop-rest : goal.decreases-loop-rest
decreases-loop-rest l = length l.rest
