use Rattle.std.proofs.Common.{◌≡◌, ◌-◌, [], ◌∷◌, pos}
use Rattle.value_domain.specs.Thresholds.{powers_put, negatives_put}
use Rattle.value_domain.proofs.limits.fixed.Given as goal

abbrev pub invariant-loop-bit : goal.invariant-loop-bit
invariant-loop-bit l = powers_put (65 - l.bit) l.bit l.ends.items ≡ powers_put 65 0 (pos 0 ∷ [])

abbrev pub invariant-loop-bit-2 : goal.invariant-loop-bit-2
invariant-loop-bit-2 l = negatives_put (64 - l.bit) l.bit l.ends.items ≡ negatives_put 64 0 (powers_put 65 0 (pos 0 ∷ []))
