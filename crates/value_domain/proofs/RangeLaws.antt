-- The interval of each operator's result: it holds the result, is monotone and lies in the scalar; and rounding.
use Rattle.std.proofs.Common.{◌≡◌, ◌<◌, ℤ, pos, negsuc, ◌+ℤ◌, ◌-ℤ◌, ◌*ℤ◌, ◌≤ℤ◌, inl, inr, subst, arith, unsigned_abs, Option, Some, None, int_div, List}
use Rattle.std.proofs.lemmas.Int.{ints}
use Rattle.std.proofs.lemmas.Nat.{mod_below}
use Rattle.gimple_ir.specs.declared.scalar.Scalar.{Scalar}
use Rattle.gimple_ir.specs.declared.scalar.Scalar.TheVariants.{I64, U64}
use Rattle.gimple_ir.specs.declared.scalar.Mode.{Mode}
use Rattle.gimple_ir.specs.declared.scalar.Op.{Op}
use Rattle.gimple_ir.specs.declared.scalar.Op.TheVariants.{Add, Sub, Mul, Div, Rem, And, Or, Xor, Shl, Shr}
use Rattle.gimple_core.specs.Operators.{modulus_of, least_of, greatest_of, op_of}
use Rattle.value_domain.specs.declared.range.Range.{Range}
use Rattle.value_domain.specs.Ranges.{InRange, InEach, Within, WithinEach, Always, sum_range, difference_range, product_range, quotient_range, FitsRange}
use Rattle.value_domain.specs.RangeOperators.{IsInside, floor_of, ceiling_of, lowest, highest, rounded, rounded_each, type_range, op_range, remainder_range, and_range, or_range, shr_range}
use Rattle.value_domain.specs.Thresholds.{IsLawful}
use Rattle.value_domain.specs.Holding.{IsRight}
use Rattle.value_domain.proofs.ScalarLemmas.{okay, of_bits_in, type_word, halves}
use Rattle.value_domain.proofs.RangeLemmas.{hull_monotone, sum_hull, difference_hull, product_hull}
use Rattle.value_domain.proofs.DivideLemmas.{IsNonZero, quotient_hull}
use Rattle.value_domain.proofs.RoundingLemmas.{floor_below, ceiling_above, floor_in, ceiling_in, floor_keeps, ceiling_keeps}
use Rattle.value_domain.proofs.FitSoundness.{fitted_holds, divided_holds, EachInside, type_inside, meet_inside, fitted_inside, hull_full, fitted_monotone, meet_each_monotone}
use Rattle.value_domain.proofs.RangeSoundness.{remainder_holds, and_holds, or_holds, xor_holds, shr_holds}
use Rattle.value_domain.proofs.RangeOrder.{remainder_monotone, remainder_inside, and_inside, and_monotone, or_inside, or_monotone, shr_inside, shr_monotone}
use Rattle.value_domain.proofs.BitLaws.{add_is, sub_is, mul_is, div_is, rem_is, and_is, or_is, xor_is, shl_is, shr_is}

non_zero : (w : ℤ) → 0 < unsigned_abs w → IsNonZero w
non_zero (pos n) h = inr (omega (arith, ints))
non_zero (negsuc n) h = inl (omega (arith, ints))

inside_in : (scalar : Scalar) (r : Range) (z : ℤ) → IsInside scalar r → InRange z r → InRange z (type_range scalar)
inside_in scalar r z i h = record { from = omega (arith, ints, i.low, h.from); to = omega (arith, ints, i.high, h.to) }

pub type_holds : (scalar : Scalar) (r : Range) (z : ℤ) → IsInside scalar r → InRange z r → InRange z (type_range scalar)
type_holds = inside_in

-- ---- the result is in the interval
pub op_range_holds : (mode : Mode) (op : Op) (scalar other : Scalar) (z w x : ℤ) (r s : Range) → IsRight op scalar other → IsInside scalar r → IsInside other s → InRange z r → InRange w s → op_of mode op scalar z w ≡ okay x → InEach x (op_range mode op scalar r s)
op_range_holds mode Add scalar other z w x r s t i j h k e = fitted_holds mode scalar (sum_range r s) (z +ℤ w) x (add_is mode scalar z w x e) (sum_hull.holds r s z w h k tt)
op_range_holds mode Sub scalar other z w x r s t i j h k e = fitted_holds mode scalar (difference_range r s) (z -ℤ w) x (sub_is mode scalar z w x e) (difference_hull.holds r s z w h k tt)
op_range_holds mode Mul scalar other z w x r s t i j h k e = fitted_holds mode scalar (product_range r s) (z *ℤ w) x (mul_is mode scalar z w x e) (product_hull.holds r s z w h k tt)
op_range_holds mode Div scalar other z w x r s t i j h k e = let d = div_is mode scalar z w x e in divided_holds scalar (quotient_range r s) z w x d.1 (quotient_hull.holds r s z w h k (non_zero w d.0))
op_range_holds mode Rem scalar other z w x r s t i j h k e = let d = rem_is mode scalar z w x e in subst (λ y. InEach y (remainder_range r s)) d.1 (remainder_holds r s z w h k d.0)
op_range_holds mode And scalar other z w x r s t i j h k e = subst (λ y. InRange y (and_range (type_range scalar) r s)) (and_is mode scalar z w x e) (and_holds scalar r s z w (inside_in scalar r z i h) (inside_in scalar s w (subst (λ o. IsInside o s) t j) k) h k)
op_range_holds mode Or scalar other z w x r s t i j h k e = let j2 : IsInside scalar s = subst (λ o. IsInside o s) t j in subst (λ y. InRange y (or_range (type_range scalar) r s)) (or_is mode scalar z w x e) (or_holds scalar r s z w i.high j2.high (inside_in scalar r z i h) (inside_in scalar s w j2 k) h k)
op_range_holds mode Xor scalar other z w x r s t i j h k e = let j2 : IsInside scalar s = subst (λ o. IsInside o s) t j in subst (λ y. InRange y (or_range (type_range scalar) r s)) (xor_is mode scalar z w x e) (xor_holds scalar r s z w i.high j2.high (inside_in scalar r z i h) (inside_in scalar s w j2 k) h k)
op_range_holds mode Shl scalar other z w x r s t i j h k e = subst (λ y. InRange y (type_range scalar)) (shl_is mode scalar z w x e).1 (of_bits_in scalar _ (let p = halves scalar in mod_below _ (modulus_of scalar) (omega arith)))
op_range_holds mode Shr scalar other z w x r s t i j h k e = subst (λ y. InRange y (shr_range r)) (shr_is mode scalar z w x e).1 (shr_holds r z (unsigned_abs w) h)

pub op_range_inside : (mode : Mode) (op : Op) (scalar other : Scalar) (r s : Range) → IsRight op scalar other → IsInside scalar r → IsInside other s → EachInside scalar (op_range mode op scalar r s)
op_range_inside mode Add scalar other r s t i j = fitted_inside mode scalar (sum_range r s) (hull_full Always (λ z w. z +ℤ w) sum_range sum_hull r s i.full j.full)
op_range_inside mode Sub scalar other r s t i j = fitted_inside mode scalar (difference_range r s) (hull_full Always (λ z w. z -ℤ w) difference_range difference_hull r s i.full j.full)
op_range_inside mode Mul scalar other r s t i j = fitted_inside mode scalar (product_range r s) (hull_full Always (λ z w. z *ℤ w) product_range product_hull r s i.full j.full)
op_range_inside mode Div scalar other r s t i j = meet_inside scalar (quotient_range r s)
op_range_inside mode Rem scalar other r s t i j = remainder_inside scalar r s i
op_range_inside mode And scalar other r s t i j = and_inside scalar r s i (subst (λ o. IsInside o s) t j)
op_range_inside mode Or scalar other r s t i j = or_inside scalar r s i (subst (λ o. IsInside o s) t j)
op_range_inside mode Xor scalar other r s t i j = or_inside scalar r s i (subst (λ o. IsInside o s) t j)
op_range_inside mode Shl scalar other r s t i j = type_inside scalar
op_range_inside mode Shr scalar other r s t i j = shr_inside scalar r i

same_within : (r : Range) → Within r r
same_within r = record { low = omega (arith, ints); high = omega (arith, ints) }

pub op_range_monotone : (mode : Mode) (op : Op) (scalar other : Scalar) (r s r2 s2 : Range) → IsRight op scalar other → IsInside scalar r → IsInside other s → IsInside scalar r2 → IsInside other s2 → Within r r2 → Within s s2 → WithinEach (op_range mode op scalar r s) (op_range mode op scalar r2 s2)
op_range_monotone mode Add scalar other r s r2 s2 t i j i2 j2 v w = fitted_monotone mode scalar (sum_range r s) (sum_range r2 s2) (hull_full Always (λ z w. z +ℤ w) sum_range sum_hull r s i.full j.full) (hull_monotone Always (λ z w. z +ℤ w) sum_range sum_hull r s r2 s2 i.full j.full v w)
op_range_monotone mode Sub scalar other r s r2 s2 t i j i2 j2 v w = fitted_monotone mode scalar (difference_range r s) (difference_range r2 s2) (hull_full Always (λ z w. z -ℤ w) difference_range difference_hull r s i.full j.full) (hull_monotone Always (λ z w. z -ℤ w) difference_range difference_hull r s r2 s2 i.full j.full v w)
op_range_monotone mode Mul scalar other r s r2 s2 t i j i2 j2 v w = fitted_monotone mode scalar (product_range r s) (product_range r2 s2) (hull_full Always (λ z w. z *ℤ w) product_range product_hull r s i.full j.full) (hull_monotone Always (λ z w. z *ℤ w) product_range product_hull r s r2 s2 i.full j.full v w)
op_range_monotone mode Div scalar other r s r2 s2 t i j i2 j2 v w = meet_each_monotone (type_range scalar) (quotient_range r s) (quotient_range r2 s2) (hull_monotone IsNonZero int_div quotient_range quotient_hull r s r2 s2 i.full j.full v w)
op_range_monotone mode Rem scalar other r s r2 s2 t i j i2 j2 v w = remainder_monotone r s r2 s2 j.full v w
op_range_monotone mode And scalar other r s r2 s2 t i j i2 j2 v w = and_monotone scalar r s r2 s2 i (subst (λ o. IsInside o s) t j) v w
op_range_monotone mode Or scalar other r s r2 s2 t i j i2 j2 v w = or_monotone scalar r s r2 s2 i (subst (λ o. IsInside o s) t j) i2 (subst (λ o. IsInside o s2) t j2) v w
op_range_monotone mode Xor scalar other r s r2 s2 t i j i2 j2 v w = or_monotone scalar r s r2 s2 i (subst (λ o. IsInside o s) t j) i2 (subst (λ o. IsInside o s2) t j2) v w
op_range_monotone mode Shl scalar other r s r2 s2 t i j i2 j2 v w = same_within (type_range scalar)
op_range_monotone mode Shr scalar other r s r2 s2 t i j i2 j2 v w = shr_monotone r r2 v

-- ---- rounding among lawful thresholds
module _ (ts : List ℤ) (law : IsLawful ts) where
  pub round_holds : (scalar : Scalar) (r : Range) (z : ℤ) → IsInside scalar r → InRange z r → InRange z (rounded ts r)
  round_holds scalar r z i h =
      let w = type_word scalar in
      let low : floor_of lowest ts r.low ≤ℤ r.low = floor_below lowest ts r.low (omega (arith, ints, i.low, w.0)) in
      let high : r.high ≤ℤ ceiling_of highest ts r.high = ceiling_above highest ts r.high (omega (arith, ints, i.high, w.1)) in
      record { from = omega (arith, ints, low, h.from); to = omega (arith, ints, high, h.to) }

  pub round_inside : (scalar : Scalar) (r : Range) → IsInside scalar r → IsInside scalar (rounded ts r)
  round_inside scalar r i =
      let w = type_word scalar in
      let e = law.ends scalar in
      let low : floor_of lowest ts r.low ≤ℤ r.low = floor_below lowest ts r.low (omega (arith, ints, i.low, w.0)) in
      let high : r.high ≤ℤ ceiling_of highest ts r.high = ceiling_above highest ts r.high (omega (arith, ints, i.high, w.1)) in
      record { low = floor_keeps lowest ts r.low (least_of scalar) e.0 i.low; high = ceiling_keeps highest ts r.high (greatest_of scalar) e.1 i.high; full = omega (arith, ints, low, high, i.full) }

  pub round_fits : (scalar : Scalar) (r : Range) → IsInside scalar r → FitsRange ts (rounded ts r)
  round_fits scalar r i =
      let n = round_inside scalar r i in
      record { low = floor_in lowest ts ts r.low (law.ends I64).0 (λ t h. h); high = ceiling_in highest ts ts r.high (law.ends U64).1 (λ t h. h); full = n.full }

  pub round_each_holds : (scalar : Scalar) (o : Option Range) (z : ℤ) → EachInside scalar o → InEach z o → InEach z (rounded_each ts o)
  round_each_holds scalar None z i h = h
  round_each_holds scalar (Some r) z i h = round_holds scalar r z i h
