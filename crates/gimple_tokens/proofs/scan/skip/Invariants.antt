use Rattle.std.proofs.Common.{◌≡◌, false, length}
use Rattle.gimple_tokens.specs.Lexing as spec
use Rattle.gimple_tokens.proofs.scan.skip.Given as goal

abbrev pub invariant-loop-rest : goal.invariant-loop-rest
invariant-loop-rest l = spec.skip false l.bytes ≡ spec.skip l.in_comment l.rest

abbrev pub decreases-loop-rest : goal.decreases-loop-rest
decreases-loop-rest l = length l.rest
