-- The value of one constant.
use Rattle.std.proofs.Common.{cond, ◌≡◌, ℕ, ◌^◌, ◌<◌, ℤ, pos, inl, inr, Bool, true, false, not, refl, sym, subst, arith, List, [], ◌∷◌, Some}
use Rattle.std.proofs.lemmas.Int.{ints}
use Rattle.std.proofs.lemmas.Nat.{pow_pos}
use Rattle.gimple_ir.specs.declared.scalar.Scalar.{Scalar}
use Rattle.gimple_ir.specs.declared.value.Value.{Value}
use Rattle.gimple_ir.specs.declared.value.Value.TheVariants.{Int as Number, Null as NullPointer, At, Code}
use Rattle.gimple_ir.specs.declared.value.Object.TheVariants.{Global as GlobalObject, Local as LocalObject}
use Rattle.gimple_ir.specs.declared.value.Constant.{Constant}
use Rattle.gimple_ir.specs.declared.value.Constant.TheVariants.{Int, Null, Global}
use Rattle.gimple_core.specs.Operators.{in_scalar}
use Rattle.gimple_core.specs.Statements.{is_pointer}
use Rattle.gimple_core.specs.State.{is_of}
use Rattle.lattice_parts.specs.Sets.{Each}
use Rattle.value_domain.specs.declared.bits.Bits.{Bits}
use Rattle.value_domain.specs.declared.range.Range.{Range}
use Rattle.value_domain.specs.declared.vals.Vals.{Vals}
use Rattle.value_domain.specs.declared.vals.Vals.TheVariants.{Any, Among}
use Rattle.value_domain.specs.declared.abs_val.AbsVal.{AbsVal}
use Rattle.value_domain.specs.Bitmasks.{pattern, Agrees, IsBits}
use Rattle.value_domain.specs.Ranges.{InRange, Within, FitsRange}
use Rattle.value_domain.specs.RangeOperators.{IsInside, rounded}
use Rattle.value_domain.specs.BitOperators.{unknown_bits, exact_bits}
use Rattle.value_domain.specs.ConstantOperators.{constant_in}
use Rattle.value_domain.specs.AbsOperators.{span_of, zero_range, bits_alone, range_alone, exactly_of}
use Rattle.value_domain.specs.Values.{vals_capped, none_val}
use Rattle.value_domain.specs.Thresholds.{IsLawful}
use Rattle.value_domain.specs.Holding.{Holds, IsAmong, constant_of, number_part, mask_width, ValsOf}
use Rattle.value_domain.specs.Laws.{AloneHolds, AloneFits}
use Rattle.value_domain.proofs.ScalarLemmas.{two, in_type}
use Rattle.value_domain.proofs.ValuesOf.{of_number, of_null, of_address}
use Rattle.value_domain.proofs.BitSoundness.{unknown_holds, exact_holds}
use Rattle.value_domain.proofs.BitOrder.{exact_of}
use Rattle.value_domain.proofs.RangeLaws.{round_holds, round_inside, round_fits}
use Rattle.value_domain.proofs.ValsLaws.{MayFit, cap_cases, of_holds}
use Rattle.value_domain.proofs.WholeLemmas.{width_is, span_is, GoodParts, IsGood, none_good, assembled_good}

abbrev alone : ℕ → List ℤ → Scalar → Constant → AbsVal
alone most ts scalar c = record { vals = vals_capped most (c ∷ []); bits = bits_alone scalar c; range = range_alone ts c }

no_pointer : (b : Bool) → not b ≡ true → b ≡ false
no_pointer true h = cc
no_pointer false h = refl

only : (scalar : Scalar) (c : Constant) → constant_in scalar c ≡ true → Each (λ d. constant_in scalar d ≡ true) (c ∷ [])
only scalar c e d (inl same) = subst (λ x. constant_in scalar x ≡ true) (sym same) e
only scalar c e d (inr h) = absurd h

-- ---- its parts fit and are of the scalar
record GoodRest (ts : List ℤ) (scalar : Scalar) (b : Bits) (r : Range) : Type 0 where
  within : IsBits b
  mask : b.mask < 2 ^ mask_width scalar
  ends : FitsRange ts r
  inside : Within r (span_of scalar)

point_inside : (scalar : Scalar) (z : ℤ) → in_scalar scalar z ≡ true → IsInside scalar (record { low = z; high = z })
point_inside scalar z e = let i = in_type scalar z e in record { low = i.from; high = i.to; full = omega (arith, ints) }

module _ (ts : List ℤ) (law : IsLawful ts) (scalar : Scalar) where
  zero_rest : is_pointer scalar ≡ true → GoodRest ts scalar unknown_bits zero_range
  zero_rest e = record {
    within = refl;
    mask = pow_pos (mask_width scalar);
    ends = record { low = law.truths.0; high = law.truths.0; full = omega (arith, ints) };
    inside = rw e (record { low = omega (arith, ints); high = omega (arith, ints) });
  }

  good_rest : (c : Constant) → constant_in scalar c ≡ true → GoodRest ts scalar (bits_alone scalar c) (range_alone ts c)
  good_rest (Int z) e =
      let t : (not (is_pointer scalar) ≡ true) × (in_scalar scalar z ≡ true) = two _ _ e in
      let p : is_pointer scalar ≡ false = no_pointer _ t.0 in
      let b = exact_of scalar z in
      let i = round_inside ts law scalar (record { low = z; high = z }) (point_inside scalar z t.1) in
      record {
        within = b.within;
        mask = subst (λ (n : ℕ). (exact_bits scalar z).mask < 2 ^ n) (sym (width_is scalar p)) b.short;
        ends = round_fits ts law scalar (record { low = z; high = z }) (point_inside scalar z t.1);
        inside = subst (λ (r : Range). Within (rounded ts (record { low = z; high = z })) r) (sym (span_is scalar p)) (record { low = i.low; high = i.high });
      }
  good_rest Null e = zero_rest e
  good_rest (Global k offset) e = zero_rest e

  parts : (most : ℕ) (v : Vals) (c : Constant) → constant_in scalar c ≡ true → MayFit most v → ValsOf scalar v → GoodParts most ts scalar v (bits_alone scalar c) (Some (range_alone ts c))
  parts most v c e f k =
      let g = good_rest c e in
      record {
        vals = f;
        kind = k;
        within = g.within;
        mask = g.mask;
        range = λ r is. let same : range_alone ts c ≡ r = cc in (subst (FitsRange ts) same g.ends, subst (λ x. Within x (span_of scalar)) same g.inside);
      }

  alone_good : (most : ℕ) (c : Constant) → constant_in scalar c ≡ true → IsGood most ts scalar (alone most ts scalar c)
  alone_good most c e =
      cap_cases most (c ∷ []) (λ v. IsGood most ts scalar (record { vals = v; bits = bits_alone scalar c; range = range_alone ts c }))
      (λ few. assembled_good most ts scalar (Among most (c ∷ [])) (bits_alone scalar c) (Some (range_alone ts c))
      (parts most (Among most (c ∷ [])) c e (record { same = refl; rising = (tt, tt); few = few; some = omega arith }) (only scalar c e)))
      (assembled_good most ts scalar Any (bits_alone scalar c) (Some (range_alone ts c)) (parts most Any c e tt tt))

  -- ---- it holds the value
  holds_alone : (most : ℕ) (v : Value) (c : Constant) → constant_in scalar c ≡ true → constant_of v ≡ Some c → Agrees (pattern (number_part v)) (bits_alone scalar c) → InRange (number_part v) (range_alone ts c)
      → Holds v (exactly_of scalar most ts c)
  unfolding exactly_of
  holds_alone most v c e is bits range = by (constant_in scalar c) e
    where
      by : (b : Bool) → b ≡ true → Holds v (cond b (alone most ts scalar c) none_val)
      by true f = record { vals = subst (λ o. IsAmong o (vals_capped most (c ∷ []))) (sym is) (of_holds most (c ∷ []) c (inl refl)); bits = bits; range = range }
      by false f = cc

  zero_holds : (most : ℕ) (v : Value) (c : Constant) → constant_in scalar c ≡ true → constant_of v ≡ Some c → number_part v ≡ pos 0 → bits_alone scalar c ≡ unknown_bits → range_alone ts c ≡ zero_range → Holds v (exactly_of scalar most ts c)
  zero_holds most v c e is zero none at =
      holds_alone most v c e is (subst (Agrees (pattern (number_part v))) (sym none) (unknown_holds (pattern (number_part v))))
      (subst (InRange (number_part v)) (sym at) (subst (λ z. InRange z zero_range) (sym zero) (record { from = omega (arith, ints); to = omega (arith, ints) })))

  value_holds : (most : ℕ) (v : Value) (c : Constant) → is_of scalar v ≡ true → constant_of v ≡ Some c → Holds v (exactly_of scalar most ts c)
  value_holds most (Number z) c h is =
      let t = of_number scalar z h in
      let same : Int z ≡ c = cc in
      let i = point_inside scalar z t.1 in
      subst (λ x. Holds (Number z) (exactly_of scalar most ts x)) same (holds_alone most (Number z) (Int z) (rw t.0 t.1) refl (exact_holds scalar z)
      (round_holds ts law scalar (record { low = z; high = z }) z i (record { from = omega (arith, ints); to = omega (arith, ints) })))
  value_holds most NullPointer c h is =
      let same : Null ≡ c = cc in
      subst (λ x. Holds NullPointer (exactly_of scalar most ts x)) same (zero_holds most NullPointer Null (of_null scalar h) refl refl refl refl)
  value_holds most (At (GlobalObject k) offset) c h is =
      let same : Global k offset ≡ c = cc in
      subst (λ x. Holds (At (GlobalObject k) offset) (exactly_of scalar most ts x)) same (zero_holds most (At (GlobalObject k) offset) (Global k offset) (of_address scalar (GlobalObject k) offset h) refl refl refl refl)
  value_holds most (At (LocalObject serial k) offset) c h is = cc
  value_holds most (Code name) c h is = cc

pub alone_holds : AloneHolds
alone_holds most ts law scalar v c h is = value_holds ts law scalar most v c h is

pub alone_fits : AloneFits
unfolding exactly_of
alone_fits most ts law scalar c = by (constant_in scalar c) refl
  where
    by : (b : Bool) → constant_in scalar c ≡ b → IsGood most ts scalar (cond b (alone most ts scalar c) none_val)
    by true e = alone_good ts law scalar most c e
    by false e = none_good most ts scalar
