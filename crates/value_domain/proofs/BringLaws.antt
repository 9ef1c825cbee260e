-- Values brought into a scalar.
use Rattle.std.proofs.Common.{cond, ◌≡◌, ℕ, ◌%◌, ◌^◌, ◌<◌, ◌≤◌, ℤ, pos, min, ◌≤ℤ◌, inl, inr, Bool, true, false, refl, sym, ◌∙◌, ap, subst, int_le, arith, bit_and, List, [], ◌∷◌, length, Option, Some, None}
use Rattle.std.specs.Int.{int_min, int_max, bit_at}
use Rattle.std.proofs.lemmas.Int.{ints, clamps}
use Rattle.std.proofs.lemmas.Bool.{le-leb}
use Rattle.std.proofs.lemmas.Nat.{mod_below, and_mod, and_le_r}
use Rattle.std.proofs.Math.Nat.{mod-eq_of_lt}
use Rattle.gimple_ir.specs.declared.scalar.Scalar.{Scalar}
use Rattle.gimple_ir.specs.declared.value.Value.{Value}
use Rattle.gimple_ir.specs.declared.value.Value.TheVariants.{Int as Number, Null as NullPointer, At, Code}
use Rattle.gimple_ir.specs.declared.value.Object.TheVariants.{Global as GlobalObject, Local as LocalObject}
use Rattle.gimple_ir.specs.declared.value.Constant.{Constant}
use Rattle.gimple_ir.specs.declared.value.Constant.TheVariants.{Int, Null, Global}
use Rattle.gimple_core.specs.Operators.{bits_of, modulus_of}
use Rattle.gimple_core.specs.Statements.{is_pointer}
use Rattle.gimple_core.specs.State.{is_of}
use Rattle.lattice_parts.specs.Sets.{Has, kept_members}
use Rattle.value_domain.specs.declared.bits.Bits.{Bits}
use Rattle.value_domain.specs.declared.range.Range.{Range}
use Rattle.value_domain.specs.declared.vals.Vals.{Vals}
use Rattle.value_domain.specs.declared.vals.Vals.TheVariants.{Any, Nothing, Among}
use Rattle.value_domain.specs.declared.abs_val.AbsVal.{AbsVal}
use Rattle.value_domain.specs.Bitmasks.{pattern, Agrees, IsBits, AreBelow}
use Rattle.value_domain.specs.BitsLemmas.{bit_agrees}
use Rattle.value_domain.specs.Ranges.{InRange, InEach, Within, WithinEach, FitsRange, meet_range}
use Rattle.value_domain.specs.RangeOperators.{type_range}
use Rattle.value_domain.specs.FitLemmas.{le_tells, meet_holds, meet_monotone}
use Rattle.value_domain.specs.BitOperators.{unknown_bits}
use Rattle.value_domain.specs.ConstantOperators.{constant_in, vals_of, kept_vals}
use Rattle.value_domain.specs.AbsOperators.{assembled, zero_range, span_of, bits_in, range_in, brought_into}
use Rattle.value_domain.specs.Values.{FitsVals, is_none_val, none_val, abs_val_below}
use Rattle.value_domain.specs.ValueLemmas.{abs_apart}
use Rattle.value_domain.specs.Thresholds.{IsLawful}
use Rattle.value_domain.specs.Holding.{constant_of, number_part, ValsOf}
use Rattle.value_domain.specs.Laws.{BroughtHolds, BroughtFits, BroughtRises, BroughtSame}
use Rattle.value_domain.proofs.ScalarLemmas.{in_type, halves, type_zero}
use Rattle.value_domain.proofs.ValuesOf.{of_number, of_null, of_address, of_function}
use Rattle.value_domain.proofs.TwosLemmas.{mod_bit}
use Rattle.value_domain.proofs.AgreeLemmas.{agrees_by}
use Rattle.value_domain.proofs.BitSoundness.{unknown_holds}
use Rattle.value_domain.proofs.BitOrder.{below_unknown}
use Rattle.value_domain.proofs.ValsLaws.{kept_hold, kept_fit, kept_in, kept_rise}
use Rattle.value_domain.proofs.WholeLemmas.{width_is, span_is, IsGood, none_good, none_holds, assembled_good, assembled_holds, PartsBelow, parts_below_is, assembled_rises, IsFullOption}
use Rattle.value_domain.proofs.MeetLaws.{meet_fits}

clash : (b : Bool) → b ≡ true → b ≡ false → ⊥
clash true e f = cc
clash false e f = cc

cut_within : (scalar : Scalar) (b : Bits) → IsBits b → bit_and (b.value % modulus_of scalar) (b.mask % modulus_of scalar) ≡ b.value % modulus_of scalar
cut_within scalar b h = sym (and_mod b.value b.mask (bits_of scalar)) ∙ ap (λ (n : ℕ). n % modulus_of scalar) h

cut_below : (scalar : Scalar) (a c : Bits) → AreBelow a c → AreBelow (record { mask = a.mask % modulus_of scalar; value = a.value % modulus_of scalar }) (record { mask = c.mask % modulus_of scalar; value = c.value % modulus_of scalar })
cut_below scalar a c h = record {
  mask = sym (and_mod a.mask c.mask (bits_of scalar)) ∙ ap (λ (n : ℕ). n % modulus_of scalar) h.mask;
  value = sym (and_mod a.value c.mask (bits_of scalar)) ∙ ap (λ (n : ℕ). n % modulus_of scalar) h.value;
}

module _ (most : ℕ) (ts : List ℤ) (law : IsLawful ts) (scalar : Scalar) where
  type_fits : FitsRange ts (type_range scalar)
  type_fits = let e = law.ends scalar in let z = type_zero scalar in record { low = e.0; high = e.1; full = omega (arith, ints, z.0, z.1) }

  pub brought_good : (a : AbsVal) → FitsVals most a.vals → IsBits a.bits → FitsRange ts a.range → IsGood most ts scalar (assembled (kept_vals (constant_in scalar) a.vals) (Some (bits_in scalar a.bits)) (range_in scalar a.range))
  brought_good a f g h = by (is_pointer scalar) refl
    where
      by : (b : Bool) → is_pointer scalar ≡ b → IsGood most ts scalar (assembled (kept_vals (constant_in scalar) a.vals) (Some (cond b unknown_bits (record { mask = a.bits.mask % modulus_of scalar; value = a.bits.value % modulus_of scalar }))) (cond b (Some zero_range) (meet_range (type_range scalar) a.range)))
      by true p = assembled_good most ts scalar _ _ _ (record {
        vals = kept_fit most (constant_in scalar) a.vals f;
        kind = kept_in scalar a.vals;
        within = refl;
        mask = small (is_pointer scalar) p;
        range = λ r e. let i : zero_range ≡ r = cc in (subst (FitsRange ts) i (record { low = law.truths.0; high = law.truths.0; full = omega (arith, ints) }), subst (λ x. Within x (span_of scalar)) i (subst (Within zero_range) (sym (zero p)) (record { low = omega (arith, ints); high = omega (arith, ints) })));
      })
        where
          small : (b : Bool) → b ≡ true → 0 < 2 ^ cond b 0 (bits_of scalar)
          small true e = omega arith
          small false e = cc

          zero : is_pointer scalar ≡ true → span_of scalar ≡ zero_range
          zero e = rw e refl
      by false p = assembled_good most ts scalar _ _ _ (record {
        vals = kept_fit most (constant_in scalar) a.vals f;
        kind = kept_in scalar a.vals;
        within = cut_within scalar a.bits g;
        mask = subst (λ (n : ℕ). a.bits.mask % modulus_of scalar < 2 ^ n) (sym (width_is scalar p)) (let q = halves scalar in mod_below a.bits.mask (modulus_of scalar) (omega arith));
        range = λ r e. let m = meet_fits ts (type_range scalar) a.range r type_fits h e in (m.0, subst (Within r) (sym (span_is scalar p)) m.1.0);
      })

  full_meet : (t r : Range) → IsFullOption (meet_range t r)
  full_meet t r = by (int_le (int_max t.low r.low) (int_min t.high r.high)) refl
    where
      by : (b : Bool) → int_le (int_max t.low r.low) (int_min t.high r.high) ≡ b → IsFullOption (cond b (Some (record { low = int_max t.low r.low; high = int_min t.high r.high })) None)
      by true e = (le_tells _ _).is_so e
      by false e = tt

  pub brought_parts_rise : (a c : AbsVal) → FitsVals most a.vals → FitsVals most c.vals → PartsBelow a c → abs_val_below (assembled (kept_vals (constant_in scalar) a.vals) (Some (bits_in scalar a.bits)) (range_in scalar a.range)) (assembled (kept_vals (constant_in scalar) c.vals) (Some (bits_in scalar c.bits)) (range_in scalar c.range)) ≡ true
  brought_parts_rise a c f g h = assembled_rises _ _ _ _ _ _ (kept_rise most (constant_in scalar) (constant_in scalar) a.vals c.vals f g (λ d e. e) h.vals) (bits (is_pointer scalar)) (ranges (is_pointer scalar)) (full (is_pointer scalar) a.range) (full (is_pointer scalar) c.range)
    where
      bits : (b : Bool) → AreBelow (cond b unknown_bits (record { mask = a.bits.mask % modulus_of scalar; value = a.bits.value % modulus_of scalar })) (cond b unknown_bits (record { mask = c.bits.mask % modulus_of scalar; value = c.bits.value % modulus_of scalar }))
      bits true = below_unknown unknown_bits
      bits false = cut_below scalar a.bits c.bits h.bits

      ranges : (b : Bool) → WithinEach (cond b (Some zero_range) (meet_range (type_range scalar) a.range)) (cond b (Some zero_range) (meet_range (type_range scalar) c.range))
      ranges true = record { low = omega (arith, ints); high = omega (arith, ints) }
      ranges false = meet_monotone (type_range scalar) a.range c.range h.range

      full : (b : Bool) (r : Range) → IsFullOption (cond b (Some zero_range) (meet_range (type_range scalar) r))
      full true r = omega (arith, ints)
      full false r = full_meet (type_range scalar) r

pub brought_fits : BroughtFits
unfolding brought_into
brought_fits most ts law scalar a (inl n) = rw (n.bare) (none_good most ts scalar)
brought_fits most ts law scalar a (inr p) = rw (p.full) (brought_good most ts law scalar a p.first p.second.within p.third)

pub brought_rises : BroughtRises
unfolding brought_into
brought_rises most ts law scalar a c (inl n) g h = rw (n.bare) refl
brought_rises most ts law scalar a c (inr p) (inl n) h = absurd (let u = parts_below_is a c p.full h in clash (is_none_val c) n.bare u.0)
brought_rises most ts law scalar a c (inr p) (inr q) h = let u = parts_below_is a c p.full h in rw (p.full, q.full) (brought_parts_rise most ts law scalar a c p.first q.first u.1)

-- ---- a value of the scalar
kept_all : (p : Constant → Bool) (cs : List Constant) → ((c : Constant) → Has c cs → p c ≡ true) → kept_members p cs ≡ cs
kept_all p [] h = refl
kept_all p (c ∷ cs) h = rw (h c (inl refl)) (ap (λ ds. c ∷ ds) (kept_all p cs (λ d m. h d (inr m))))

same_vals : (most : ℕ) (scalar : Scalar) (v : Vals) → FitsVals most v → ValsOf scalar v → kept_vals (constant_in scalar) v ≡ v
same_vals most scalar Any f g = refl
same_vals most scalar Nothing f g = refl
same_vals most scalar (Among l cs) f g = ap (vals_of l) (kept_all (constant_in scalar) cs g) ∙ whole l cs f.some (subst (λ (n : ℕ). length cs ≤ n) (sym f.same) f.few)
  where
    whole : (l : ℕ) (cs : List Constant) → 0 < length cs → length cs ≤ l → vals_of l cs ≡ Among l cs
    whole l [] h k = absurd (omega arith)
    whole l (c ∷ cs) h k = rw (le-leb (length (c ∷ cs)) l k) refl

same_range : (t r : Range) → r.low ≤ℤ r.high → Within r t → meet_range t r ≡ Some r
same_range t r h w =
    let a : int_max t.low r.low ≡ r.low = omega (arith, ints, clamps, w.low) in
    let b : int_min t.high r.high ≡ r.high = omega (arith, ints, clamps, w.high) in
    rw ((le_tells (int_max t.low r.low) (int_min t.high r.high)).so_is (omega (arith, ints, a, b, h))) (ap Some (λ i. record { low = a i; high = b i }))

whole_same : (a : AbsVal) (v : Vals) (o : Option Bits) (p : Option Range) → v ≡ a.vals → o ≡ Some a.bits → p ≡ Some a.range → (a.vals ≡ Nothing → ⊥) → assembled v o p ≡ a
whole_same a v o p e f g n = (λ i. assembled (e i) (f i) (g i)) ∙ made a.vals refl
  where
    made : (w : Vals) → a.vals ≡ w → assembled w (Some a.bits) (Some a.range) ≡ record { vals = w; bits = a.bits; range = a.range }
    made Any e = refl
    made Nothing e = absurd (n e)
    made (Among l cs) e = refl

not_empty : (most : ℕ) (v : Vals) → FitsVals most v → v ≡ Nothing → ⊥
not_empty most v f e = let k : FitsVals most Nothing = subst (FitsVals most) e f in k

pub brought_same : BroughtSame
unfolding brought_into
brought_same most ts scalar a (inl n) o = rw (n.bare) (sym (abs_apart a none_val n.is))
brought_same most ts scalar a (inr p) (inl n) = absurd (clash (is_none_val a) n p.full)
brought_same most ts scalar a (inr p) (inr q) = rw (p.full) (whole_same a _ _ _ (same_vals most scalar a.vals p.first q.vals) (ap Some (bits (is_pointer scalar) refl q.mask)) (ranges (is_pointer scalar) refl q.range) (not_empty most a.vals p.first))
  where
    bits : (b : Bool) → is_pointer scalar ≡ b → a.bits.mask < 2 ^ cond b 0 (bits_of scalar) → cond b unknown_bits (record { mask = a.bits.mask % modulus_of scalar; value = a.bits.value % modulus_of scalar }) ≡ a.bits
    bits true e h =
        let m : 0 ≡ a.bits.mask = omega arith in
        let l : a.bits.value ≤ a.bits.mask = subst (λ (n : ℕ). n ≤ a.bits.mask) p.second.within (and_le_r a.bits.value a.bits.mask) in
        let v : 0 ≡ a.bits.value = omega arith in
        λ i. record { mask = m i; value = v i }
    bits false e h =
        let l : a.bits.value ≤ a.bits.mask = subst (λ (n : ℕ). n ≤ a.bits.mask) p.second.within (and_le_r a.bits.value a.bits.mask) in
        let m : a.bits.mask % modulus_of scalar ≡ a.bits.mask = mod-eq_of_lt h in
        let v : a.bits.value % modulus_of scalar ≡ a.bits.value = mod-eq_of_lt (let k : a.bits.value < 2 ^ bits_of scalar = omega arith in k) in
        λ i. record { mask = m i; value = v i }

    ranges : (b : Bool) → is_pointer scalar ≡ b → Within a.range (cond b zero_range (type_range scalar)) → cond b (Some zero_range) (meet_range (type_range scalar) a.range) ≡ Some a.range
    ranges true e w =
        let f = p.third.full in
        let l : pos 0 ≡ a.range.low = omega (arith, ints, w.low, w.high, f) in
        let h : pos 0 ≡ a.range.high = omega (arith, ints, w.low, w.high, f) in
        ap Some (λ i. record { low = l i; high = h i })
    ranges false e w = same_range (type_range scalar) a.range p.third.full w

-- ---- it holds the scalar's values

constant_stays : (scalar : Scalar) (v : Value) (c : Constant) → is_of scalar v ≡ true → constant_of v ≡ Some c → constant_in scalar c ≡ true
constant_stays scalar (Number z) c h e = let same : Int z ≡ c = cc in let f = of_number scalar z h in subst (λ d. constant_in scalar d ≡ true) same (rw f.0 f.1)
constant_stays scalar NullPointer c h e = let same : Null ≡ c = cc in subst (λ d. constant_in scalar d ≡ true) same (of_null scalar h)
constant_stays scalar (At (GlobalObject k) offset) c h e = let same : Global k offset ≡ c = cc in subst (λ d. constant_in scalar d ≡ true) same (of_address scalar (GlobalObject k) offset h)
constant_stays scalar (At (LocalObject serial k) offset) c h e = cc
constant_stays scalar (Code name) c h e = cc

cut_holds : (scalar : Scalar) (n : ℕ) (b : Bits) → Agrees n b → Agrees n (record { mask = b.mask % modulus_of scalar; value = b.value % modulus_of scalar })
cut_holds scalar n b h =
    let p = halves scalar in
    agrees_by scalar n _ (mod_below b.mask (modulus_of scalar) (omega arith)) (mod_below b.value (modulus_of scalar) (omega arith))
    (λ i l. ap (λ (q : ℕ). min (bit_at n i) q) (mod_bit b.mask (bits_of scalar) i l) ∙ (bit_agrees n i b h ∙ sym (mod_bit b.value (bits_of scalar) i l)))

bits_stay : (scalar : Scalar) (n : ℕ) (b : Bits) → Agrees n b → Agrees n (bits_in scalar b)
bits_stay scalar n b h = by (is_pointer scalar)
  where
    by : (t : Bool) → Agrees n (cond t unknown_bits (record { mask = b.mask % modulus_of scalar; value = b.value % modulus_of scalar }))
    by true = unknown_holds n
    by false = cut_holds scalar n b h

range_stays : (scalar : Scalar) (v : Value) (r : Range) → is_of scalar v ≡ true → InRange (number_part v) r → InEach (number_part v) (range_in scalar r)
range_stays scalar (Number z) r h i = let f = of_number scalar z h in rw f.0 (meet_holds (type_range scalar) r z (in_type scalar z f.1) i)
range_stays scalar NullPointer r h i = rw (of_null scalar h) (record { from = omega (arith, ints); to = omega (arith, ints) })
range_stays scalar (At object offset) r h i = rw (of_address scalar object offset h) (record { from = omega (arith, ints); to = omega (arith, ints) })
range_stays scalar (Code name) r h i = rw (of_function scalar name h) (record { from = omega (arith, ints); to = omega (arith, ints) })

pub brought_holds : BroughtHolds
unfolding brought_into
brought_holds most ts scalar a (inl n) v h k = absurd (none_holds v a (abs_apart a none_val n.is) k)
brought_holds most ts scalar a (inr p) v h k =
    rw (p.full)
    (assembled_holds v (kept_vals (constant_in scalar) a.vals) (bits_in scalar a.bits) (range_in scalar a.range)
    (kept_hold (constant_in scalar) a.vals (constant_of v) k.vals (λ c e. constant_stays scalar v c h e))
    (bits_stay scalar (pattern (number_part v)) a.bits k.bits)
    (range_stays scalar v a.range h k.range))
