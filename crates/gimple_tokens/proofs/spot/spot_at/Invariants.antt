use Rattle.std.proofs.Common.{◌≡◌, ◌+◌, ◌≤◌, length}
use Rattle.gimple_tokens.specs.Spots as spec
use Rattle.gimple_tokens.proofs.spot.spot_at.Given as goal

abbrev pub invariant-loop-rest : goal.invariant-loop-rest
invariant-loop-rest l = (spec.spot_at l.bytes l.place ≡ spec.spot_after l.spot l.rest) × (l.spot.line + length l.rest ≤ 1 + length l.bytes) × (l.spot.column + length l.rest ≤ 1 + length l.bytes)

abbrev pub decreases-loop-rest : goal.decreases-loop-rest
decreases-loop-rest l = length l.rest
