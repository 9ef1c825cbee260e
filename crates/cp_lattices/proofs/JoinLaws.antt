-- A join of values of a scalar is of it.
use Rattle.std.proofs.Common.{◌≡◌, ℕ, ◌^◌, ◌<◌, ◌≤◌, ◌⊎◌, inl, inr, Bool, true, false, cond, leb, refl, sym, ◌∙◌, arith, bit_and, bit_xor, List, [], ◌∷◌, length}
use Rattle.std.proofs.lemmas.Int.{ints, clamps}
use Rattle.std.proofs.lemmas.Nat.{xor_lt, and_le_l, and_le_r}
use Rattle.gimple_ir.specs.declared.scalar.Scalar.{Scalar}
use Rattle.gimple_ir.specs.declared.value.Constant.{Constant}
use Rattle.lattice_parts.specs.Sets.{IsOrder, Has, Each, placed, united}
use Rattle.lattice_parts.specs.SetLemmas.{placed_holds}
use Rattle.value_domain.specs.declared.abs_val.AbsVal.{AbsVal}
use Rattle.value_domain.specs.declared.bits.Bits.{Bits}
use Rattle.value_domain.specs.declared.range.Range.{Range}
use Rattle.value_domain.specs.declared.vals.Vals.{Vals}
use Rattle.value_domain.specs.declared.vals.Vals.TheVariants.{Any, Nothing, Among}
use Rattle.value_domain.specs.AbsOperators.{span_of}
use Rattle.value_domain.specs.Bitmasks.{conflict, bits_joined}
use Rattle.value_domain.specs.ConstantOperators.{constant_in}
use Rattle.value_domain.specs.Constants.{before}
use Rattle.value_domain.specs.Holding.{IsOf, ValsOf, mask_width}
use Rattle.value_domain.specs.OrderLemmas.{constant_order}
use Rattle.value_domain.specs.Ranges.{Within, hull}
use Rattle.value_domain.specs.Values.{is_none_val, vals_capped, vals_joined, abs_val_joined}

-- what holds of the members of both sets holds of those of their union
united_each : {X : Type 0} (lt : X → X → Bool) → IsOrder lt → (P : X → Type 0) (xs ys : List X) → Each P xs → Each P ys → Each P (united lt xs ys)
united_each lt o P [] ys h k = k
united_each lt o P (x ∷ xs) ys h k = united_each lt o P xs (placed lt x ys) (λ c m. h c (inr m)) (λ c m. by c ((placed_holds lt o x ys).0 c m))
  where
    by : (c : _) → (c ≡ x) ⊎ Has c ys → P c
    by c (inl e) = h c (inl e)
    by c (inr m) = k c m

capped_of : (scalar : Scalar) (limit : ℕ) (cs : List Constant) → Each (λ c. constant_in scalar c ≡ true) cs → ValsOf scalar (vals_capped limit cs)
capped_of scalar limit cs h = by (leb (length cs) limit)
  where
    by : (b : Bool) → ValsOf scalar (cond b (Among limit cs) Any)
    by true = h
    by false = tt

vals_join_of : (scalar : Scalar) (v w : Vals) → ValsOf scalar v → ValsOf scalar w → ValsOf scalar (vals_joined v w)
vals_join_of scalar Any w h k = tt
vals_join_of scalar Nothing w h k = tt
vals_join_of scalar (Among limit xs) Any h k = tt
vals_join_of scalar (Among limit xs) Nothing h k = tt
vals_join_of scalar (Among limit xs) (Among most ys) h k = capped_of scalar limit (united before xs ys) (united_each before constant_order (λ c. constant_in scalar c ≡ true) xs ys h k)

mask_join : (width : ℕ) (a b : Bits) → a.mask < 2 ^ width → b.mask < 2 ^ width → (bits_joined a b).mask < 2 ^ width
mask_join width a b h k =
    let p : bit_and a.mask b.mask ≤ a.mask = and_le_l a.mask b.mask in
    let q : conflict a b ≤ bit_and a.mask b.mask = and_le_r (bit_xor a.value b.value) (bit_and a.mask b.mask) in
    xor_lt width (bit_and a.mask b.mask) (conflict a b) (omega (arith, p, h)) (omega (arith, p, q, h))

hull_within : (r s t : Range) → Within r t → Within s t → Within (hull r s) t
hull_within r s t v w = record { low = omega (arith, ints, clamps, v.low, w.low); high = omega (arith, ints, clamps, v.high, w.high) }

pub join_of : (scalar : Scalar) (a b : AbsVal) → IsOf scalar a → IsOf scalar b → IsOf scalar (abs_val_joined a b)
join_of scalar a b h k = by (is_none_val a) (is_none_val b) refl refl h k
  where
    by : (x y : Bool) → is_none_val a ≡ x → is_none_val b ≡ y → IsOf scalar a → IsOf scalar b →
        IsOf scalar (cond x b (cond y a (record { vals = vals_joined a.vals b.vals; bits = bits_joined a.bits b.bits; range = hull a.range b.range })))
    by true y e f h k = k
    by false true e f h k = h
    by false false e f (inl n) k = let clash : false ≡ true = sym e ∙ n in cc
    by false false e f (inr p) (inl n) = let clash : false ≡ true = sym f ∙ n in cc
    by false false e f (inr p) (inr q) = inr (record {
      vals = vals_join_of scalar a.vals b.vals p.vals q.vals;
      mask = mask_join (mask_width scalar) a.bits b.bits p.mask q.mask;
      range = hull_within a.range b.range (span_of scalar) p.range q.range;
    })
