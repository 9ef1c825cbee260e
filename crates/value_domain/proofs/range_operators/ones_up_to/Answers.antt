use Rattle.std.proofs.Common.{rules, arith, ℤ, pos, ◌≡◌, ◌≤ℤ◌, ◌<ℤ◌, ◌-◌, ◌^◌, ◌∙◌, sym, ap, subst, FitsSigned, to_z, of_z}
use Rattle.std.specs.Int.{w128}
use Rattle.std.proofs.lemmas.Int.{to_z-of_z, ints}
use Rattle.value_domain.specs.RangeOperators.{ones_reaching}
use Rattle.value_domain.proofs.RangeSoundness.{ones_step, ones_found, ones_end}
use Rattle.value_domain.proofs.range_operators.ones_up_to.Goals as goal

pub returns-then-value-lowest : goal.returns-then-value-lowest
unfolding ones_reaching
returns-then-value-lowest c =
    let v : FitsSigned w128 c.args.value = c.ranges.value in
    let r : FitsSigned w128 c.from-lowest.result = search rules in
    let invariant = simp to_z-of_z at c.loop-bit.invariant in
    let test : c.args.value ≤ℤ c.from-lowest.result = omega (arith, ints, c.if-value-lowest.true) in
    let e : c.from-lowest.result ≡ pos (2 ^ c.loop-bit.bit - 1) = c.from-lowest.ensures ∙ ap (λ n. pos n) c.ones.ensures in
    to_z-of_z w128 _ r ∙ (e ∙ (sym (ones_found c.loop-bit.bit c.args.value (omega arith) (subst (λ (m : ℤ). c.args.value ≤ℤ m) e test)) ∙ invariant))

pub loop-bit-preserved : goal.loop-bit-preserved
loop-bit-preserved c =
    let v : FitsSigned w128 c.args.value = c.ranges.value in
    let r : FitsSigned w128 c.from-lowest.result = search rules in
    let z = to_z w128 (of_z w128 c.args.value) in
    let test : c.from-lowest.result <ℤ to_z w128 (of_z w128 c.args.value) = omega (arith, ints, c.if-value-lowest.false) in
    let e : c.from-lowest.result ≡ pos (2 ^ c.loop-bit.bit - 1) = c.from-lowest.ensures ∙ ap (λ n. pos n) c.ones.ensures in
    sym (ones_step c.loop-bit.bit (to_z w128 (of_z w128 c.args.value)) (omega arith) (subst (λ (m : ℤ). m <ℤ to_z w128 (of_z w128 c.args.value)) e test)) ∙ c.loop-bit.invariant

pub returns : goal.returns
unfolding ones_reaching
returns c =
    let v : FitsSigned w128 c.args.value = c.ranges.value in
    let invariant = simp to_z-of_z at c.loop-bit.invariant in
    let e : c.loop-bit.bit ≡ 64 = omega arith in
    sym (ones_end c.loop-bit.bit c.args.value e) ∙ invariant
