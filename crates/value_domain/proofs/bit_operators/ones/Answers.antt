use Rattle.std.proofs.Common.{arith, ℕ, ◌≡◌, ◌-◌, ◌^◌, ◌∙◌, ap}
use Rattle.std.proofs.lemmas.Nat.Bits.{ones_shr}
use Rattle.value_domain.proofs.bit_operators.ones.Goals as goal

pub returns-else-count-eq0 : goal.returns-else-count-eq0
returns-else-count-eq0 c =
    let e : 64 - (64 - c.args.count) ≡ c.args.count = omega (arith, c.requires) in
    ones_shr 64 (64 - c.args.count) (omega arith) ∙ ap (λ (k : ℕ). 2 ^ k - 1) e
