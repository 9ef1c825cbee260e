-- Comparisons and conversions of abstract values: they hold the results, are monotone and fit.
use Rattle.std.proofs.Common.{cond, ◌≡◌, ℕ, ◌^◌, ◌<◌, ℤ, pos, ◌≤ℤ◌, Bool, true, false, refl, sym, ◌∙◌, ap, subst, arith, List, Some}
use Rattle.std.proofs.lemmas.Int.{ints}
use Rattle.gimple_ir.specs.declared.scalar.Scalar.{Scalar}
use Rattle.gimple_ir.specs.declared.scalar.Cmp.{Cmp}
use Rattle.gimple_ir.specs.declared.value.Value.{Value}
use Rattle.gimple_ir.specs.declared.value.Value.TheVariants.{Int as Number, Null as NullPointer, At, Code}
use Rattle.gimple_ir.specs.declared.value.Object.TheVariants.{Global as GlobalObject, Local as LocalObject}
use Rattle.gimple_ir.specs.declared.value.Constant.{Constant}
use Rattle.gimple_ir.specs.declared.value.Constant.TheVariants.{Int, Null, Global}
use Rattle.gimple_core.specs.Operators.{wrapped, cmp_of}
use Rattle.gimple_core.specs.Run.{compares, pointers_compare, one_if, converted}
use Rattle.gimple_core.specs.Statements.{is_pointer}
use Rattle.gimple_core.specs.State.{is_of}
use Rattle.value_domain.specs.declared.bits.Bits.{Bits}
use Rattle.value_domain.specs.declared.range.Range.{Range}
use Rattle.value_domain.specs.declared.vals.Vals.{Vals}
use Rattle.value_domain.specs.declared.abs_val.AbsVal.{AbsVal}
use Rattle.value_domain.specs.Bitmasks.{pattern, Agrees, AreBelow}
use Rattle.value_domain.specs.Ranges.{InRange, Within, FitsRange}
use Rattle.value_domain.specs.RangeOperators.{type_range, rounded, cmp_range, convert_range}
use Rattle.value_domain.specs.BitOperators.{truth, some_truth, cmp_bits, converted_bits}
use Rattle.value_domain.specs.ConstantOperators.{constant_in, cmp_constant, compared_constants, same_constant, convert_constant, pairs_vals, mapped_vals}
use Rattle.value_domain.specs.AbsOperators.{assembled, span_of, either_range, bits_compared, range_compared}
use Rattle.value_domain.specs.Values.{FitsVals, abs_val_below}
use Rattle.value_domain.specs.Thresholds.{IsLawful}
use Rattle.value_domain.specs.Holding.{Holds, IsAmong, constant_of}
use Rattle.value_domain.proofs.ScalarLemmas.{in_type, in_type_is, type_zero, wrapped_in}
use Rattle.value_domain.proofs.ValuesOf.{of_number}
use Rattle.value_domain.proofs.AgreeLemmas.{BitsOf}
use Rattle.value_domain.proofs.BitSoundness.{truth_holds, cmp_holds as cmp_bits_hold, convert_holds as convert_bits_hold}
use Rattle.value_domain.proofs.BitOrder.{some_truth_of, cmp_of_width, cmp_monotone as cmp_bits_monotone, convert_of, convert_monotone as convert_bits_monotone, below_same}
use Rattle.value_domain.proofs.RangeSoundness.{truth_holds as truth_between, cmp_holds as cmp_range_holds, convert_holds as convert_range_holds}
use Rattle.value_domain.proofs.RangeOrder.{cmp_monotone as cmp_range_monotone, cmp_cases, convert_inside, convert_monotone as convert_range_monotone}
use Rattle.value_domain.proofs.RangeLaws.{round_holds, round_inside, round_fits}
use Rattle.value_domain.proofs.RoundingLemmas.{rounded_monotone}
use Rattle.value_domain.proofs.ValsLaws.{pairs_hold, none_left, none_right, pairs_fit, pairs_of, pairs_rise, mapped_hold, mapped_fit, mapped_of, mapped_rise}
use Rattle.value_domain.proofs.WholeLemmas.{width_is, span_is, number_value, ProperOf, assembled_holds, IsGood, assembled_good, PartsBelow, assembled_rises, IsFullOption}
use Rattle.value_domain.proofs.OperatorLaws.{any_is}

truth_value : (b : Bool) → one_if b ≡ Number (truth b)
truth_value true = refl
truth_value false = refl

compares_numbers : (cmp : Cmp) (z w : ℤ) → compares (Number z) cmp (Number w) ≡ cmp_of cmp z w
unfolding compares
compares_numbers cmp z w = refl

-- ---- comparisons
module _ (most : ℕ) (ts : List ℤ) (law : IsLawful ts) (target : Scalar) (cmp : Cmp) (scalar : Scalar) (q : is_pointer target ≡ false) where
  compared_range_within : (r s : Range) → Within (range_compared cmp scalar r s) (span_of target) × FitsRange ts (range_compared cmp scalar r s)
  compared_range_within r s = by (is_pointer scalar)
    where
      span : Within either_range (span_of target)
      span = let z = type_zero target in subst (Within either_range) (sym (span_is target q)) (record { low = z.0; high = z.1 })

      inner : (l h : ℤ) → pos 0 ≤ℤ l → h ≤ℤ pos 1 → Within (record { low = l; high = h }) (span_of target)
      inner l h a b = let z = type_zero target in subst (Within (record { low = l; high = h })) (sym (span_is target q)) (record { low = omega (arith, ints, z.0); high = omega (arith, ints, z.1) })

      by : (b : Bool) → Within (cond b either_range (cmp_range cmp r s)) (span_of target) × FitsRange ts (cond b either_range (cmp_range cmp r s))
      by true = (span, record { low = law.truths.0; high = law.truths.1; full = omega (arith, ints) })
      by false = cmp_cases cmp r s (λ x. Within x (span_of target) × FitsRange ts x)
          (inner (pos 1) (pos 1) (omega (arith, ints)) (omega (arith, ints)), record { low = law.truths.1; high = law.truths.1; full = omega (arith, ints) })
          (inner (pos 0) (pos 0) (omega (arith, ints)) (omega (arith, ints)), record { low = law.truths.0; high = law.truths.0; full = omega (arith, ints) })
          (span, record { low = law.truths.0; high = law.truths.1; full = omega (arith, ints) })

  compared_bits_of : (a b : Bits) → BitsOf target (bits_compared target cmp scalar a b)
  compared_bits_of a b = by (is_pointer scalar)
    where
      by : (c : Bool) → BitsOf target (cond c (some_truth target) (cmp_bits target cmp scalar a b))
      by true = some_truth_of target
      by false = cmp_of_width target cmp scalar a b

  truth_in : (c d e : Constant) → cmp_constant cmp c d ≡ Some e → constant_in target e ≡ true
  truth_in c d e h = let i : Int (truth (compared_constants cmp c d)) ≡ e = cc in subst (λ x. constant_in target x ≡ true) i (rw q (in_type_is target (truth (compared_constants cmp c d)) (between (compared_constants cmp c d))))
    where
      between : (b : Bool) → InRange (truth b) (type_range target)
      between true = let z = type_zero target in record { from = omega (arith, ints, z.0); to = z.1 }
      between false = let z = type_zero target in record { from = z.0; to = omega (arith, ints, z.1) }

  pub cmp_good : (a b : AbsVal) → IsGood most ts target (assembled (pairs_vals most (cmp_constant cmp) a.vals b.vals) (Some (bits_compared target cmp scalar a.bits b.bits)) (Some (range_compared cmp scalar a.range b.range)))
  cmp_good a b =
      let bits = compared_bits_of a.bits b.bits in
      let range = compared_range_within a.range b.range in
      assembled_good most ts target _ _ _ (record {
        vals = pairs_fit most (cmp_constant cmp) a.vals b.vals;
        kind = pairs_of target most (cmp_constant cmp) a.vals b.vals truth_in;
        within = bits.within;
        mask = subst (λ (n : ℕ). (bits_compared target cmp scalar a.bits b.bits).mask < 2 ^ n) (sym (width_is target q)) bits.short;
        range = λ r e. let i : range_compared cmp scalar a.range b.range ≡ r = cc in (subst (FitsRange ts) i range.1, subst (λ x. Within x (span_of target)) i range.0);
      })

  -- numbers
  pub cmp_int_holds : is_pointer scalar ≡ false → (a b : AbsVal) (v w : Value) → ProperOf most ts scalar a → ProperOf most ts scalar b → is_of scalar v ≡ true → is_of scalar w ≡ true → Holds v a → Holds w b → Holds (one_if (compares v cmp w)) (assembled (pairs_vals most (cmp_constant cmp) a.vals b.vals) (Some (bits_compared target cmp scalar a.bits b.bits)) (Some (range_compared cmp scalar a.range b.range)))
  cmp_int_holds p a b v w f g e k h m =
      let z = number_value scalar v p e in
      let u = number_value scalar w p k in
      let h2 : Holds (Number z.0) a = subst (λ y. Holds y a) z.1 h in
      let m2 : Holds (Number u.0) b = subst (λ y. Holds y b) u.1 m in
      let t = cmp_of cmp z.0 u.0 in
      let R = assembled (pairs_vals most (cmp_constant cmp) a.vals b.vals) (Some (bits_compared target cmp scalar a.bits b.bits)) (Some (range_compared cmp scalar a.range b.range)) in
      let done : Holds (Number (truth t)) R =
      assembled_holds (Number (truth t)) _ _ _
      (pairs_hold most (cmp_constant cmp) a.vals b.vals (Int z.0) (Int u.0) (Int (truth t)) h2.vals m2.vals refl)
      (subst (Agrees (pattern (truth t))) (sym (bits_is p a.bits b.bits)) (cmp_bits_hold target cmp scalar z.0 u.0 a.bits b.bits f.bits g.bits (in_type scalar z.0 z.2) (in_type scalar u.0 u.2) h2.bits m2.bits))
      (subst (InRange (truth t)) (sym (range_is p a.range b.range)) (cmp_range_holds cmp a.range b.range z.0 u.0 h2.range m2.range)) in
      let same : one_if (compares v cmp w) ≡ Number (truth t) = ap (λ y. one_if (compares y cmp w)) z.1 ∙ (ap (λ y. one_if (compares (Number z.0) cmp y)) u.1 ∙ (ap one_if (compares_numbers cmp z.0 u.0) ∙ truth_value t)) in
      subst (λ y. Holds y R) (sym same) done
    where
      bits_is : is_pointer scalar ≡ false → (x y : Bits) → bits_compared target cmp scalar x y ≡ cmp_bits target cmp scalar x y
      bits_is p x y = rw p refl

      range_is : is_pointer scalar ≡ false → (x y : Range) → range_compared cmp scalar x y ≡ cmp_range cmp x y
      range_is p x y = rw p refl

  -- pointers
  no_number : (z : ℤ) → is_of scalar (Number z) ≡ true → is_pointer scalar ≡ true → ⊥
  no_number z e p = let c : true ≡ false = sym p ∙ (of_number scalar z e).0 in cc

  ptr_vals : (v w : Value) (x y : Vals) → is_of scalar v ≡ true → is_of scalar w ≡ true → is_pointer scalar ≡ true → IsAmong (constant_of v) x → IsAmong (constant_of w) y → IsAmong (Some (Int (truth (compares v cmp w)))) (pairs_vals most (cmp_constant cmp) x y)
  unfolding compares
  ptr_vals (Number z) w x y e k p h m = absurd (no_number z e p)
  ptr_vals v (Number z) x y e k p h m = absurd (no_number z k p)
  ptr_vals NullPointer NullPointer x y e k p h m = pairs_hold most (cmp_constant cmp) x y Null Null (Int (truth (pointers_compare cmp (same_constant Null Null)))) h m refl
  ptr_vals NullPointer (At (GlobalObject j) o) x y e k p h m = pairs_hold most (cmp_constant cmp) x y Null (Global j o) (Int (truth (pointers_compare cmp (same_constant Null (Global j o))))) h m refl
  ptr_vals NullPointer (At (LocalObject s j) o) x y e k p h m = none_right most (cmp_constant cmp) x y (Some (Int (truth (compares NullPointer cmp (At (LocalObject s j) o))))) m
  ptr_vals (At (GlobalObject i) n) NullPointer x y e k p h m = pairs_hold most (cmp_constant cmp) x y (Global i n) Null (Int (truth (pointers_compare cmp (same_constant (Global i n) Null)))) h m refl
  ptr_vals (At (GlobalObject i) n) (At (GlobalObject j) o) x y e k p h m = pairs_hold most (cmp_constant cmp) x y (Global i n) (Global j o) (Int (truth (pointers_compare cmp (same_constant (Global i n) (Global j o))))) h m refl
  ptr_vals (At (GlobalObject i) n) (At (LocalObject s j) o) x y e k p h m = none_right most (cmp_constant cmp) x y (Some (Int (truth (compares (At (GlobalObject i) n) cmp (At (LocalObject s j) o))))) m
  ptr_vals NullPointer (Code g) x y e k p h m = none_right most (cmp_constant cmp) x y (Some (Int (truth (compares NullPointer cmp (Code g))))) m
  ptr_vals (At (GlobalObject i) n) (Code g) x y e k p h m = none_right most (cmp_constant cmp) x y (Some (Int (truth (compares (At (GlobalObject i) n) cmp (Code g))))) m
  ptr_vals (Code f) w x y e k p h m = none_left most (cmp_constant cmp) x y (Some (Int (truth (compares (Code f) cmp w)))) h
  ptr_vals (At (LocalObject s i) n) w x y e k p h m = none_left most (cmp_constant cmp) x y (Some (Int (truth (compares (At (LocalObject s i) n) cmp w)))) h

  pub cmp_ptr_holds : is_pointer scalar ≡ true → (a b : AbsVal) (v w : Value) → is_of scalar v ≡ true → is_of scalar w ≡ true → Holds v a → Holds w b → Holds (one_if (compares v cmp w)) (assembled (pairs_vals most (cmp_constant cmp) a.vals b.vals) (Some (bits_compared target cmp scalar a.bits b.bits)) (Some (range_compared cmp scalar a.range b.range)))
  cmp_ptr_holds p a b v w e k h m =
      let R = assembled (pairs_vals most (cmp_constant cmp) a.vals b.vals) (Some (bits_compared target cmp scalar a.bits b.bits)) (Some (range_compared cmp scalar a.range b.range)) in
      let t = compares v cmp w in
      let done : Holds (Number (truth t)) R = assembled_holds (Number (truth t)) _ _ _ (ptr_vals v w a.vals b.vals e k p h.vals m.vals)
      (subst (Agrees (pattern (truth t))) (sym (bits_is p a.bits b.bits)) (truth_holds target t))
      (subst (InRange (truth t)) (sym (range_is p a.range b.range)) (truth_between t)) in
      subst (λ y. Holds y R) (sym (truth_value t)) done
    where
      bits_is : is_pointer scalar ≡ true → (x y : Bits) → bits_compared target cmp scalar x y ≡ some_truth target
      bits_is p x y = rw p refl

      range_is : is_pointer scalar ≡ true → (x y : Range) → range_compared cmp scalar x y ≡ either_range
      range_is p x y = rw p refl

  full_range : (r s : Range) → IsFullOption (Some (range_compared cmp scalar r s))
  full_range r s = (compared_range_within r s).1.full

  pub cmp_rises : (a b c d : AbsVal) → FitsVals most a.vals → FitsVals most b.vals → FitsVals most c.vals → FitsVals most d.vals → PartsBelow a c → PartsBelow b d
      → (is_pointer scalar ≡ false → BitsOf scalar a.bits × BitsOf scalar b.bits × (a.range.low ≤ℤ a.range.high) × (b.range.low ≤ℤ b.range.high))
      → abs_val_below (assembled (pairs_vals most (cmp_constant cmp) a.vals b.vals) (Some (bits_compared target cmp scalar a.bits b.bits)) (Some (range_compared cmp scalar a.range b.range))) (assembled (pairs_vals most (cmp_constant cmp) c.vals d.vals) (Some (bits_compared target cmp scalar c.bits d.bits)) (Some (range_compared cmp scalar c.range d.range))) ≡ true
  cmp_rises a b c d f g i j h k known =
      assembled_rises _ _ _ _ _ _ (pairs_rise most (cmp_constant cmp) a.vals b.vals c.vals d.vals f g i j h.vals k.vals) (bits (is_pointer scalar) refl) (ranges (is_pointer scalar) refl) (full_range a.range b.range) (full_range c.range d.range)
    where
      bits : (t : Bool) → is_pointer scalar ≡ t → AreBelow (cond t (some_truth target) (cmp_bits target cmp scalar a.bits b.bits)) (cond t (some_truth target) (cmp_bits target cmp scalar c.bits d.bits))
      bits true e = below_same (some_truth target) (some_truth_of target).within
      bits false e = let x = known e in cmp_bits_monotone target cmp scalar a.bits b.bits c.bits d.bits x.0 x.1 h.bits k.bits

      ranges : (t : Bool) → is_pointer scalar ≡ t → Within (cond t either_range (cmp_range cmp a.range b.range)) (cond t either_range (cmp_range cmp c.range d.range))
      ranges true e = record { low = omega (arith, ints); high = omega (arith, ints) }
      ranges false e = let x = known e in cmp_range_monotone cmp a.range b.range c.range d.range x.2 x.3 h.range k.range

-- ---- conversions
module _ (most : ℕ) (ts : List ℤ) (law : IsLawful ts) (target source : Scalar) (q : is_pointer target ≡ false) (p : is_pointer source ≡ false) where
  converted_in : (c e : Constant) → convert_constant target c ≡ Some e → constant_in target e ≡ true
  converted_in (Int z) e h = let i : Int (wrapped target z) ≡ e = cc in subst (λ x. constant_in target x ≡ true) i (rw q (in_type_is target (wrapped target z) (wrapped_in target z)))
  converted_in Null e h = cc
  converted_in (Global k o) e h = cc

  pub convert_good : (a : AbsVal) → ProperOf most ts source a → IsGood most ts target (assembled (mapped_vals most (convert_constant target) a.vals) (Some (converted_bits target source a.bits)) (Some (rounded ts (convert_range target a.range))))
  convert_good a f =
      let bits = convert_of target source a.bits f.bits in
      let i = convert_inside target a.range f.inside.full in
      let n = round_inside ts law target (convert_range target a.range) i in
      assembled_good most ts target _ _ _ (record {
        vals = mapped_fit most (convert_constant target) a.vals;
        kind = mapped_of target most (convert_constant target) a.vals converted_in;
        within = bits.within;
        mask = subst (λ (m : ℕ). (converted_bits target source a.bits).mask < 2 ^ m) (sym (width_is target q)) bits.short;
        range = λ r e. let s : rounded ts (convert_range target a.range) ≡ r = cc in (subst (FitsRange ts) s (round_fits ts law target (convert_range target a.range) i), subst (λ x. Within x (span_of target)) s (subst (Within (rounded ts (convert_range target a.range))) (sym (span_is target q)) (record { low = n.low; high = n.high })));
      })

  pub convert_holds : (a : AbsVal) (v : Value) → ProperOf most ts source a → is_of source v ≡ true → Holds v a → Holds (converted target v) (assembled (mapped_vals most (convert_constant target) a.vals) (Some (converted_bits target source a.bits)) (Some (rounded ts (convert_range target a.range))))
  convert_holds a v f e h =
      let z = number_value source v p e in
      let h2 : Holds (Number z.0) a = subst (λ y. Holds y a) z.1 h in
      let R = assembled (mapped_vals most (convert_constant target) a.vals) (Some (converted_bits target source a.bits)) (Some (rounded ts (convert_range target a.range))) in
      let y = wrapped target z.0 in
      let done : Holds (Number y) R = assembled_holds (Number y) _ _ _
      (mapped_hold most (convert_constant target) a.vals (Int z.0) (Int y) h2.vals refl)
      (convert_bits_hold target source z.0 a.bits f.bits (in_type source z.0 z.2) h2.bits)
      (round_holds ts law target (convert_range target a.range) y (convert_inside target a.range f.inside.full) (convert_range_holds target a.range z.0 h2.range)) in
      let same : converted target v ≡ Number y = ap (converted target) z.1 ∙ ap (λ n. Number (wrapped target n)) (any_is source z.0 z.2) in
      subst (λ x. Holds x R) (sym same) done

  pub convert_rises : (a c : AbsVal) → ProperOf most ts source a → ProperOf most ts source c → PartsBelow a c → abs_val_below (assembled (mapped_vals most (convert_constant target) a.vals) (Some (converted_bits target source a.bits)) (Some (rounded ts (convert_range target a.range)))) (assembled (mapped_vals most (convert_constant target) c.vals) (Some (converted_bits target source c.bits)) (Some (rounded ts (convert_range target c.range)))) ≡ true
  convert_rises a c f i h = assembled_rises _ _ _ _ _ _
      (mapped_rise most (convert_constant target) a.vals c.vals f.vals i.vals h.vals)
      (convert_bits_monotone target source a.bits c.bits f.bits i.bits h.bits)
      (rounded_monotone ts (Some (convert_range target a.range)) (Some (convert_range target c.range)) (convert_range_monotone target a.range c.range f.inside.full h.range))
      (round_inside ts law target (convert_range target a.range) (convert_inside target a.range f.inside.full)).full
      (round_inside ts law target (convert_range target c.range) (convert_inside target c.range i.inside.full)).full
