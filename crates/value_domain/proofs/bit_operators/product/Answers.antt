use Rattle.std.proofs.Common.{arith, ℕ, ◌≡◌, ◌≤◌, ◌-◌, ◌*◌, ◌^◌, ◌∙◌, ap}
use Rattle.value_domain.specs.BitOperators.{low_known}
use Rattle.value_domain.proofs.PatternLemmas.{low_code, bits_by}
use Rattle.value_domain.proofs.bit_operators.product.Goals as goal

pub returns : goal.returns
returns c =
    let t = low_known c.args.left c.args.right in
    let e : c.ones-mask.result ≡ 2 ^ t - 1 = c.ones-mask.ensures ∙ ap (λ (k : ℕ). 2 ^ k - 1) c.known_low.ensures.value in
    let h : t ≤ 64 = omega (arith, c.known_low.ensures.value, c.known_low.ensures.bound) in
    bits_by _ _ _ _ e (low_code t (c.args.left.value * c.args.right.value) c.ones-mask.result e h)
