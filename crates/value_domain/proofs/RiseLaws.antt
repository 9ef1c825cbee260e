-- Meets and what taken comparisons leave rise with their sides.
use Rattle.std.proofs.Common.{cond, ◌≡◌, ℕ, ◌+◌, ◌%◌, ◌<◌, ◌==◌, min, max, ℤ, ◌≤ℤ◌, inl, inr, Bool, true, false, not, refl, sym, ◌∙◌, ap, subst, int_le, arith, bit_or, List, [], ◌∷◌, length, Option, Some, None}
use Rattle.std.specs.Int.{int_min, int_max, bit_at}
use Rattle.std.proofs.lemmas.Int.{ints, clamps}
use Rattle.std.proofs.lemmas.Bool.{eqb-true, eq-eqb, le-leb}
use Rattle.std.proofs.lemmas.Nat.Bits.{bit_at_and, bit_at_or, bit_at_xor, bit_at-lt, bit_at-zero, same_from_bits}
use Rattle.gimple_ir.specs.declared.scalar.Scalar.{Scalar}
use Rattle.gimple_ir.specs.declared.scalar.Cmp.{Cmp}
use Rattle.gimple_ir.specs.declared.scalar.Cmp.TheVariants.{Eq, Ne, Lt, Le, Gt, Ge}
use Rattle.gimple_ir.specs.declared.value.Constant.{Constant}
use Rattle.gimple_ir.specs.declared.value.Constant.TheVariants.{Int, Null, Global}
use Rattle.lattice_parts.specs.Sets.{Subset, has_by, same_by, kept_members}
use Rattle.lattice_parts.specs.SetLemmas.{is_has, has_is, subset_is, is_subset, kept_from, kept_ascends}
use Rattle.value_domain.specs.declared.bits.Bits.{Bits}
use Rattle.value_domain.specs.declared.range.Range.{Range}
use Rattle.value_domain.specs.declared.vals.Vals.{Vals}
use Rattle.value_domain.specs.declared.vals.Vals.TheVariants.{Any, Nothing, Among}
use Rattle.value_domain.specs.declared.abs_val.AbsVal.{AbsVal}
use Rattle.value_domain.specs.Constants.{before}
use Rattle.value_domain.specs.OrderLemmas.{constant_order}
use Rattle.value_domain.specs.Bitmasks.{IsBits, AreBelow, conflict, bits_met}
use Rattle.value_domain.specs.BitsLemmas.{bit_agrees, bit_below}
use Rattle.value_domain.specs.Ranges.{Within, WithinEach, FitsRange, meet_range}
use Rattle.value_domain.specs.RangeOperators.{allowed, rounded_each}
use Rattle.value_domain.specs.FitLemmas.{le_tells}
use Rattle.value_domain.specs.ConstantOperators.{vals_of, kept_vals}
use Rattle.value_domain.specs.AbsOperators.{assembled, vals_met, abs_met, lies_in, single_of, left_without, vals_without, ordered_left, refined_proper, refined_of}
use Rattle.value_domain.specs.Values.{FitsAmong, FitsVals, FitsWith, vals_below, is_none_val, none_val, abs_val_below}
use Rattle.value_domain.specs.Thresholds.{IsLawful}
use Rattle.value_domain.specs.Holding.{MayCompare, is_equality}
use Rattle.value_domain.specs.Laws.{MeetRises, RefineRises}
use Rattle.value_domain.proofs.ScalarLemmas.{two, both}
use Rattle.value_domain.proofs.BitOrder.{conflict_stays}
use Rattle.value_domain.proofs.RangeLaws.{round_inside}
use Rattle.value_domain.proofs.RoundingLemmas.{rounded_monotone}
use Rattle.value_domain.proofs.FitSoundness.{EachInside}
use Rattle.value_domain.proofs.ValsLaws.{Rises, any_rises, of_rises, kept_rise}
use Rattle.value_domain.proofs.WholeLemmas.{ProperOf, PartsBelow, assembled_rises, unless_rises, IsFullOption}
use Rattle.value_domain.proofs.AbsLaws.{proper_by}
use Rattle.value_domain.proofs.RefineLaws.{left_inside, int_order}

-- ---- sets
among_is : (most l : ℕ) (cs : List Constant) → FitsAmong most l cs → Among l cs ≡ vals_of most cs
among_is most l [] f = absurd (let s = f.some in omega arith)
among_is most l (c ∷ cs) f = rw (le-leb (length (c ∷ cs)) most f.few) (ap (λ (n : ℕ). Among n (c ∷ cs)) f.same)

among_rises : (most l m : ℕ) (xs ys : List Constant) → FitsAmong most l xs → FitsAmong most m ys → Subset xs ys → Rises (Among l xs) (Among m ys)
among_rises most l m xs ys f g s = record { below = is_subset before constant_order xs ys s; empty = λ e. cc }

kept_under : (most l m : ℕ) (p : Constant → Bool) (xs ys : List Constant) → FitsAmong most l xs → FitsAmong most m ys → Subset (kept_members p xs) ys → Rises (kept_vals p (Among l xs)) (Among m ys)
kept_under most l m p xs ys f g s = subst (λ (n : ℕ). Rises (vals_of n (kept_members p xs)) (Among m ys)) (sym f.same) (subst (Rises (vals_of most (kept_members p xs))) (sym (among_is most m ys g)) (of_rises most (kept_members p xs) ys (kept_ascends before p xs f.rising) g.rising s))

met_rises : (most : ℕ) (a b c d : Vals) → FitsVals most a → FitsVals most b → FitsVals most c → FitsVals most d → vals_below a c ≡ true → vals_below b d ≡ true → Rises (vals_met a b) (vals_met c d)
met_rises most Nothing b c d f g i j h k = absurd f
met_rises most a Nothing c d f g i j h k = absurd g
met_rises most a b Nothing d f g i j h k = absurd i
met_rises most a b c Nothing f g i j h k = absurd j
met_rises most a b Any Any f g i j h k = any_rises (vals_met a b)
met_rises most a Any Any (Among m vs) f g i j h k = cc
met_rises most Any (Among l ys) Any (Among m vs) f g i j h k = among_rises most l m ys vs g j (subset_is before constant_order ys vs k)
met_rises most (Among n xs) (Among l ys) Any (Among m vs) f g i j h k = kept_under most n m (λ e. has_by before e ys) xs vs f j (λ e s. subset_is before constant_order ys vs k e (has_is before constant_order e ys (kept_from (λ e. has_by before e ys) xs e s).1))
met_rises most Any b (Among m us) d f g i j h k = cc
met_rises most (Among l xs) Any (Among m us) Any f g i j h k = among_rises most l m xs us f i (subset_is before constant_order xs us h)
met_rises most (Among n xs) (Among l ys) (Among m us) Any f g i j h k = kept_under most n m (λ e. has_by before e ys) xs us f i (λ e s. subset_is before constant_order xs us h e (kept_from (λ e. has_by before e ys) xs e s).0)
met_rises most (Among l xs) Any (Among m us) (Among n vs) f g i j h k = cc
met_rises most (Among l xs) (Among o ys) (Among m us) (Among n vs) f g i j h k =
    kept_rise most (λ e. has_by before e ys) (λ e. has_by before e vs) (Among l xs) (Among m us) f i (λ e s. is_has before constant_order e vs (subset_is before constant_order ys vs k e (has_is before constant_order e ys s))) h

-- ---- bits
abbrev both_bits : Bits → Bits → Bits
both_bits a b = record { mask = bit_or a.mask b.mask; value = bit_or a.value b.value }

met_row : (p q u v s t x y : ℕ) → p < 2 → q < 2 → u < 2 → v < 2 → s < 2 → t < 2 → min p s ≡ s → min u s ≡ x → min q t ≡ t → min v t ≡ y → min u p ≡ u → min v q ≡ v → min ((u + v) % 2) (min p q) ≡ 0 → (min (max p q) (max s t) ≡ max s t) × (min (max u v) (max s t) ≡ max x y)
met_row p q u v s t x y a b c d e f g h i j k l m = (omega arith, omega arith)

met_below : (a b c d : Bits) → IsBits a → IsBits b → AreBelow a c → AreBelow b d → conflict a b ≡ 0 → AreBelow (both_bits a b) (both_bits c d)
met_below a b c d m n h k e =
    let row = λ (i : ℕ). met_row (bit_at a.mask i) (bit_at b.mask i) (bit_at a.value i) (bit_at b.value i) (bit_at c.mask i) (bit_at d.mask i) (bit_at c.value i) (bit_at d.value i) (bit_at-lt _ i) (bit_at-lt _ i) (bit_at-lt _ i) (bit_at-lt _ i) (bit_at-lt _ i) (bit_at-lt _ i) (bit_below a c i h).0 (bit_below a c i h).1 (bit_below b d i k).0 (bit_below b d i k).1 (bit_agrees a.value i a m) (bit_agrees b.value i b n) (simp (bit_at_and, bit_at_xor, bit_at-zero) at (ap (λ (w : ℕ). bit_at w i) e)) in
    record {
      mask = same_from_bits _ _ (λ (i : ℕ). simp (bit_at_and, bit_at_or) (row i).0);
      value = same_from_bits _ _ (λ (i : ℕ). simp (bit_at_and, bit_at_or) (row i).1);
    }

no_bits : (v : Vals) (o : Option Range) → assembled v None o ≡ none_val
no_bits Nothing o = refl
no_bits Any o = refl
no_bits (Among l xs) o = refl

met_assembled : (v w : Vals) (a b c d : Bits) (o p : Option Range) → IsBits a → IsBits b → Rises v w → AreBelow a c → AreBelow b d → WithinEach o p → IsFullOption o → IsFullOption p → abs_val_below (assembled v (bits_met a b) o) (assembled w (bits_met c d) p) ≡ true
met_assembled v w a b c d o p m n r h k l f g = by (conflict a b == 0) (conflict c d == 0) refl refl
  where
    by : (s t : Bool) → (conflict a b == 0) ≡ s → (conflict c d == 0) ≡ t → abs_val_below (assembled v (cond s (Some (both_bits a b)) None) o) (assembled w (cond t (Some (both_bits c d)) None) p) ≡ true
    by false t e i = rw (no_bits v o) refl
    by true false e i = absurd (let z = conflict_stays a b c d h k (eqb-true _ _ e) in let y : (conflict c d == 0) ≡ true = eq-eqb _ _ z in let x : true ≡ false = sym y ∙ i in cc)
    by true true e i = assembled_rises v w (both_bits a b) (both_bits c d) o p r (met_below a b c d m n h k (eqb-true _ _ e)) l f g

-- ---- intervals
pub meet_both : (t u r s : Range) → Within t u → Within r s → WithinEach (meet_range t r) (meet_range u s)
meet_both t u r s v w = by (int_le (int_max t.low r.low) (int_min t.high r.high)) refl
  where
    by : (b : Bool) → int_le (int_max t.low r.low) (int_min t.high r.high) ≡ b → WithinEach (cond b (Some (record { low = int_max t.low r.low; high = int_min t.high r.high })) None) (meet_range u s)
    by true e =
        let h : int_max t.low r.low ≤ℤ int_min t.high r.high = (le_tells _ _).is_so e in
        rw ((le_tells (int_max u.low s.low) (int_min u.high s.high)).so_is (omega (arith, ints, clamps, h, v.low, v.high, w.low, w.high))) (record { low = omega (arith, ints, clamps, v.low, w.low); high = omega (arith, ints, clamps, v.high, w.high) })
    by false e = tt

full_meet : (t r : Range) → IsFullOption (meet_range t r)
full_meet t r = by (int_le (int_max t.low r.low) (int_min t.high r.high)) refl
  where
    by : (b : Bool) → int_le (int_max t.low r.low) (int_min t.high r.high) ≡ b → IsFullOption (cond b (Some (record { low = int_max t.low r.low; high = int_min t.high r.high })) None)
    by true e = (le_tells _ _).is_so e
    by false e = tt

-- ---- meets
-- the parts of a value that is not none
record Parted (most : ℕ) (ts : List ℤ) (a : AbsVal) : Type 0 where
  vals : FitsVals most a.vals
  bits : IsBits a.bits
  range : FitsRange ts a.range

parted : (most : ℕ) (ts : List ℤ) (a : AbsVal) → FitsWith most ts a → is_none_val a ≡ false → Parted most ts a
parted most ts a (inl n) e = absurd (let c : true ≡ false = sym n.bare ∙ e in cc)
parted most ts a (inr p) e = record { vals = p.first; bits = p.second.within; range = p.third }

pub meet_rises : MeetRises
unfolding abs_met
meet_rises most ts a b c d fa fb fc fd h k = unless_rises a b c d _ _ h k (λ i j u w m n.
    let f = parted most ts a fa i in let g = parted most ts b fb j in let o = parted most ts c fc u in let q = parted most ts d fd w in
    met_assembled _ _ a.bits b.bits c.bits d.bits _ _ f.bits g.bits (met_rises most a.vals b.vals c.vals d.vals f.vals g.vals o.vals q.vals m.vals n.vals) m.bits n.bits (meet_both a.range c.range b.range d.range m.range n.range) (full_meet a.range b.range) (full_meet c.range d.range))

-- ---- taken comparisons
allowed_monotone : (cmp : Cmp) (s t : Range) → Within s t → Within (allowed cmp s) (allowed cmp t)
allowed_monotone Eq s t w = w
allowed_monotone Ne s t w = record { low = omega (arith, ints); high = omega (arith, ints) }
allowed_monotone Lt s t w = record { low = omega (arith, ints); high = omega (arith, ints, w.high) }
allowed_monotone Le s t w = record { low = omega (arith, ints); high = w.high }
allowed_monotone Gt s t w = record { low = omega (arith, ints, w.low); high = omega (arith, ints) }
allowed_monotone Ge s t w = record { low = w.low; high = omega (arith, ints) }

lies_wider : (r s : Range) (c : Constant) → Within r s → lies_in r c ≡ true → lies_in s c ≡ true
lies_wider r s (Int z) w h =
    let e : (int_le r.low z ≡ true) × (int_le z r.high ≡ true) = two _ _ h in
    let p : r.low ≤ℤ z = (le_tells r.low z).is_so e.0 in
    let q : z ≤ℤ r.high = (le_tells z r.high).is_so e.1 in
    both _ _ ((le_tells s.low z).so_is (omega (arith, ints, w.low))) ((le_tells z s.high).so_is (omega (arith, ints, w.high)))
lies_wider r s Null w h = cc
lies_wider r s (Global k o) w h = cc

fit_below : (most : ℕ) (a c : Vals) → FitsVals most a → FitsVals most c → vals_below a c ≡ true → Rises a c
fit_below most a c f g h = record { below = h; empty = λ e. absurd (none_fits most c g e) }
  where
    none_fits : (most : ℕ) (c : Vals) → FitsVals most c → c ≡ Nothing → ⊥
    none_fits most c g e = let k : FitsVals most Nothing = subst (FitsVals most) e g in k

kept_below : (most : ℕ) (p : Constant → Bool) (a c : Vals) → FitsVals most a → FitsVals most c → vals_below a c ≡ true → Rises (kept_vals p a) c
kept_below most p a Any f g h = any_rises (kept_vals p a)
kept_below most p a Nothing f g h = absurd g
kept_below most p Any (Among m us) f g h = cc
kept_below most p Nothing (Among m us) f g h = absurd f
kept_below most p (Among l xs) (Among m us) f g h = kept_under most l m p xs us f g (λ e s. subset_is before constant_order xs us h e (kept_from p xs e s).0)

left_below : (most : ℕ) (o : Option Constant) (a c : Vals) → FitsVals most a → FitsVals most c → vals_below a c ≡ true → Rises (left_without o a) c
left_below most None a c f g h = fit_below most a c f g h
left_below most (Some e) a c f g h = kept_below most (λ d. not (same_by before d e)) a c f g h

-- a set that fits below one constant is that constant
single_below : (most : ℕ) (b d : Vals) (c : Constant) → FitsVals most b → FitsVals most d → vals_below b d ≡ true → single_of d ≡ Some c → single_of b ≡ Some c
single_below most b Any c f g k e = cc
single_below most b Nothing c f g k e = cc
single_below most b (Among m []) c f g k e = cc
single_below most b (Among m (v ∷ (w ∷ vs))) c f g k e = cc
single_below most Any (Among m (v ∷ [])) c f g k e = cc
single_below most Nothing (Among m (v ∷ [])) c f g k e = absurd f
single_below most (Among l []) (Among m (v ∷ [])) c f g k e = absurd (let s = f.some in omega arith)
single_below most (Among l (y ∷ [])) (Among m (v ∷ [])) c f g k e = elim (subset_is before constant_order (y ∷ []) (v ∷ []) k y (inl refl)) [ inl s ↦ ap Some s ∙ e | inr t ↦ absurd t ]
single_below most (Among l (y ∷ (z ∷ ys))) (Among m (v ∷ [])) c f g k e =
    let s = subset_is before constant_order (y ∷ (z ∷ ys)) (v ∷ []) k in
    elim (s y (inl refl)) [ inl p ↦ elim (s z (inr (inl refl))) [ inl q ↦ absurd (let r : before y z ≡ true = f.rising.0.0 in let t : before y z ≡ before v v = λ i. before (p i) (q i) in let u = constant_order.apart v in let x : true ≡ false = sym r ∙ (t ∙ u) in cc) | inr t ↦ absurd t ] | inr t ↦ absurd t ]

without_rises : (most : ℕ) (a b c d : Vals) → FitsVals most a → FitsVals most b → FitsVals most c → FitsVals most d → vals_below a c ≡ true → vals_below b d ≡ true → Rises (vals_without a b) (vals_without c d)
without_rises most a b c d f g i j h k = by (single_of d) refl
  where
    by : (o : Option Constant) → single_of d ≡ o → Rises (left_without (single_of b) a) (left_without o c)
    by None e = left_below most (single_of b) a c f i h
    by (Some v) e = subst (λ o. Rises (left_without o a) (left_without (Some v) c)) (sym (single_below most b d v g j k e)) (kept_rise most (λ x. not (same_by before x v)) (λ x. not (same_by before x v)) a c f i (λ x s. s) h)

order_rises : (most : ℕ) (ts : List ℤ) → IsLawful ts → (cmp : Cmp) (scalar : Scalar) (a b c d : AbsVal) → ProperOf most ts scalar a → ProperOf most ts scalar c → PartsBelow a c → PartsBelow b d → abs_val_below (ordered_left cmp ts a b) (ordered_left cmp ts c d) ≡ true
order_rises most ts law cmp scalar a b c d f g h k =
    let w = allowed_monotone cmp b.range d.range k.range in
    assembled_rises _ _ _ _ _ _
    (kept_rise most (lies_in (allowed cmp b.range)) (lies_in (allowed cmp d.range)) a.vals c.vals f.vals g.vals (λ e s. lies_wider (allowed cmp b.range) (allowed cmp d.range) e w s) h.vals)
    h.bits
    (rounded_monotone ts (meet_range (allowed cmp b.range) a.range) (meet_range (allowed cmp d.range) c.range) (meet_both (allowed cmp b.range) (allowed cmp d.range) a.range c.range w h.range))
    (full (meet_range (allowed cmp b.range) a.range) (left_inside scalar (allowed cmp b.range) a.range f.inside))
    (full (meet_range (allowed cmp d.range) c.range) (left_inside scalar (allowed cmp d.range) c.range g.inside))
  where
    full : (o : Option Range) → EachInside scalar o → IsFullOption (rounded_each ts o)
    full None i = tt
    full (Some r) i = (round_inside ts law scalar r i).full

pub refine_rises : RefineRises
unfolding refined_of
refine_rises most ts law cmp scalar al a b c d fa oa fb ob fc oc fd od h k = unless_rises a b c d _ _ h k (λ i j u w m n. by cmp al i j u w m n)
  where
    ordered : (r : Cmp) → MayCompare r scalar → is_equality r ≡ false → is_none_val a ≡ false → is_none_val c ≡ false → PartsBelow a c → PartsBelow b d → abs_val_below (ordered_left r ts a b) (ordered_left r ts c d) ≡ true
    ordered r al e i u m n = let p = int_order r scalar al e in order_rises most ts law r scalar a b c d (proper_by most ts scalar a fa oa p i) (proper_by most ts scalar c fc oc p u) m n

    by : (r : Cmp) → MayCompare r scalar → is_none_val a ≡ false → is_none_val b ≡ false → is_none_val c ≡ false → is_none_val d ≡ false → PartsBelow a c → PartsBelow b d → abs_val_below (refined_proper r ts a b) (refined_proper r ts c d) ≡ true
    by Eq al i j u w m n = meet_rises most ts a b c d fa fb fc fd h k
    by Ne al i j u w m n =
        let f = parted most ts a fa i in let g = parted most ts b fb j in let o = parted most ts c fc u in let q = parted most ts d fd w in
        assembled_rises _ _ _ _ _ _ (without_rises most a.vals b.vals c.vals d.vals f.vals g.vals o.vals q.vals m.vals n.vals) m.bits m.range f.range.full o.range.full
    by Lt al i j u w m n = ordered Lt al refl i u m n
    by Le al i j u w m n = ordered Le al refl i u m n
    by Gt al i j u w m n = ordered Gt al refl i u m n
    by Ge al i j u w m n = ordered Ge al refl i u m n
