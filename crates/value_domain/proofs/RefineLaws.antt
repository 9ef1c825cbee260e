-- Taken comparisons: what is left holds the value, and fits.
use Rattle.std.proofs.Common.{cond, ◌≡◌, ℕ, ◌^◌, ◌<◌, ◌==◌, ℤ, ◌≤ℤ◌, ◌<ℤ◌, inl, inr, Bool, true, false, not, ◌&&◌, refl, sym, ◌∙◌, ap, subst, int_le, arith, List, [], ◌∷◌, Option, Some, None}
use Rattle.std.specs.Int.{int_min, int_max}
use Rattle.std.proofs.lemmas.Int.{ints, clamps}
use Rattle.std.proofs.lemmas.Bool.{eqb-true, eq-eqb}
use Rattle.gimple_ir.specs.declared.scalar.Scalar.{Scalar}
use Rattle.gimple_ir.specs.declared.scalar.Cmp.{Cmp}
use Rattle.gimple_ir.specs.declared.scalar.Cmp.TheVariants.{Eq, Ne, Lt, Le, Gt, Ge}
use Rattle.gimple_ir.specs.declared.value.Value.{Value}
use Rattle.gimple_ir.specs.declared.value.Value.TheVariants.{Int as Number, Null as NullPointer, At, Code}
use Rattle.gimple_ir.specs.declared.value.Object.{Object}
use Rattle.gimple_ir.specs.declared.value.Object.TheVariants.{Global as GlobalObject, Local as LocalObject}
use Rattle.gimple_ir.specs.declared.value.Constant.{Constant}
use Rattle.gimple_ir.specs.declared.value.Constant.TheVariants.{Int, Null, Global}
use Rattle.gimple_core.specs.Operators.{cmp_of}
use Rattle.gimple_core.specs.Memory.{same_object}
use Rattle.gimple_core.specs.Run.{compares}
use Rattle.gimple_core.specs.Statements.{is_pointer}
use Rattle.gimple_core.specs.State.{is_of}
use Rattle.gimple_core.proofs.NameLemmas.{same_name_true, same_name_self}
use Rattle.value_domain.specs.declared.range.Range.{Range}
use Rattle.value_domain.specs.declared.vals.Vals.{Vals}
use Rattle.value_domain.specs.declared.vals.Vals.TheVariants.{Any, Nothing, Among}
use Rattle.value_domain.specs.declared.abs_val.AbsVal.{AbsVal}
use Rattle.lattice_parts.specs.Sets.{same_by}
use Rattle.lattice_parts.specs.SetLemmas.{same_is}
use Rattle.value_domain.specs.Constants.{before}
use Rattle.value_domain.specs.OrderLemmas.{constant_order}
use Rattle.value_domain.specs.Ranges.{InRange, Within, FitsRange, meet_range}
use Rattle.value_domain.specs.RangeOperators.{lowest, highest, allowed, IsInside, rounded, rounded_each}
use Rattle.value_domain.specs.FitLemmas.{le_tells, meet_holds}
use Rattle.value_domain.specs.ConstantOperators.{kept_vals}
use Rattle.value_domain.specs.AbsOperators.{assembled, lies_in, vals_without, ordered_left, refined_proper, refined_of, span_of}
use Rattle.value_domain.specs.Values.{FitsVals, FitsWith, is_none_val}
use Rattle.value_domain.specs.Thresholds.{IsLawful}
use Rattle.value_domain.specs.Holding.{Holds, IsAmong, IsListed, constant_of, ValsOf, IsOf, MayCompare, is_equality}
use Rattle.value_domain.specs.Laws.{RefineHolds, RefineFits}
use Rattle.value_domain.proofs.ScalarLemmas.{two, both, in_type, type_word}
use Rattle.value_domain.proofs.RangeSoundness.{lt_is}
use Rattle.value_domain.proofs.RangeLaws.{round_each_holds, round_inside, round_fits}
use Rattle.value_domain.proofs.FitSoundness.{EachInside}
use Rattle.value_domain.proofs.ValsLaws.{MayFit, kept_hold, kept_fit, kept_of}
use Rattle.value_domain.proofs.WholeLemmas.{width_is, span_is, number_value, ProperOf, assembled_holds, unless_proper, IsGood, assembled_good, unless_good}
use Rattle.value_domain.proofs.AbsLaws.{none_or_not, proper_by}
use Rattle.value_domain.proofs.MeetLaws.{meet_holds_all, meet_fits_all}

-- ---- the numbers that a comparison allows
allowed_holds : (cmp : Cmp) (s : Range) (z w : ℤ) → lowest ≤ℤ z → z ≤ℤ highest → InRange w s → cmp_of cmp z w ≡ true → InRange z (allowed cmp s)
allowed_holds Eq s z w l u k h = let e : (int_le z w ≡ true) × (int_le w z ≡ true) = two _ _ h in let a : z ≤ℤ w = (le_tells z w).is_so e.0 in let b : w ≤ℤ z = (le_tells w z).is_so e.1 in record { from = omega (arith, ints, k.from); to = omega (arith, ints, k.to) }
allowed_holds Ne s z w l u k h = record { from = l; to = u }
allowed_holds Lt s z w l u k h = let e : z <ℤ w = lt_is z w h in record { from = l; to = omega (arith, ints, k.to) }
allowed_holds Le s z w l u k h = let e : z ≤ℤ w = (le_tells z w).is_so h in record { from = l; to = omega (arith, ints, k.to) }
allowed_holds Gt s z w l u k h = let e : w <ℤ z = lt_is w z h in record { from = omega (arith, ints, k.from); to = u }
allowed_holds Ge s z w l u k h = let e : w ≤ℤ z = (le_tells w z).is_so h in record { from = omega (arith, ints, k.from); to = u }

-- what a meet leaves of an interval of the scalar is of the scalar
pub left_inside : (scalar : Scalar) (t r : Range) → IsInside scalar r → EachInside scalar (meet_range t r)
left_inside scalar t r i = by (int_le (int_max t.low r.low) (int_min t.high r.high)) refl
  where
    by : (b : Bool) → int_le (int_max t.low r.low) (int_min t.high r.high) ≡ b → EachInside scalar (cond b (Some (record { low = int_max t.low r.low; high = int_min t.high r.high })) None)
    by true e = let h : int_max t.low r.low ≤ℤ int_min t.high r.high = (le_tells _ _).is_so e in record { low = omega (arith, ints, clamps, i.low); high = omega (arith, ints, clamps, i.high); full = h }
    by false e = tt

compares_numbers : (cmp : Cmp) (z w : ℤ) → compares (Number z) cmp (Number w) ≡ cmp_of cmp z w
unfolding compares
compares_numbers cmp z w = refl

module _ (most : ℕ) (ts : List ℤ) (law : IsLawful ts) (cmp : Cmp) (scalar : Scalar) (p : is_pointer scalar ≡ false) where
  order_holds : (a b : AbsVal) (v w : Value) → ProperOf most ts scalar a → ProperOf most ts scalar b → is_of scalar v ≡ true → is_of scalar w ≡ true → Holds v a → Holds w b → compares v cmp w ≡ true → Holds v (ordered_left cmp ts a b)
  order_holds a b v w f g e k h m n =
      let z = number_value scalar v p e in
      let u = number_value scalar w p k in
      let h2 : Holds (Number z.0) a = subst (λ y. Holds y a) z.1 h in
      let m2 : Holds (Number u.0) b = subst (λ y. Holds y b) u.1 m in
      let c : cmp_of cmp z.0 u.0 ≡ true = sym (compares_numbers cmp z.0 u.0) ∙ (sym (ap (λ y. compares y cmp (Number u.0)) z.1) ∙ (sym (ap (λ y. compares v cmp y) u.1) ∙ n)) in
      let t = in_type scalar z.0 z.2 in
      let s = type_word scalar in
      let i : InRange z.0 (allowed cmp b.range) = allowed_holds cmp b.range z.0 u.0 (omega (arith, ints, t.from, s.0)) (omega (arith, ints, t.to, s.1)) m2.range c in
      let done : Holds (Number z.0) (ordered_left cmp ts a b) =
      assembled_holds (Number z.0) (kept_vals (lies_in (allowed cmp b.range)) a.vals) a.bits (rounded_each ts (meet_range (allowed cmp b.range) a.range))
      (kept_hold (lies_in (allowed cmp b.range)) a.vals (Some (Int z.0)) h2.vals (λ d q. inside z.0 d i q))
      h2.bits
      (round_each_holds ts law scalar (meet_range (allowed cmp b.range) a.range) z.0 (left_inside scalar (allowed cmp b.range) a.range f.inside) (meet_holds (allowed cmp b.range) a.range z.0 i h2.range)) in
      subst (λ y. Holds y (ordered_left cmp ts a b)) (sym z.1) done
    where
      inside : (z : ℤ) (d : Constant) → InRange z (allowed cmp b.range) → Some (Int z) ≡ Some d → lies_in (allowed cmp b.range) d ≡ true
      inside z d i q = let same : Int z ≡ d = cc in subst (λ x. lies_in (allowed cmp b.range) x ≡ true) same (both _ _ ((le_tells (allowed cmp b.range).low z).so_is i.from) ((le_tells z (allowed cmp b.range).high).so_is i.to))

  order_good : (a b : AbsVal) → ProperOf most ts scalar a → IsGood most ts scalar (ordered_left cmp ts a b)
  order_good a b f = assembled_good most ts scalar _ _ _ (record {
    vals = kept_fit most (lies_in (allowed cmp b.range)) a.vals f.vals;
    kind = kept_of scalar (lies_in (allowed cmp b.range)) a.vals f.kind;
    within = f.bits.within;
    mask = subst (λ (n : ℕ). a.bits.mask < 2 ^ n) (sym (width_is scalar p)) f.bits.short;
    range = λ r e. good (meet_range (allowed cmp b.range) a.range) (left_inside scalar (allowed cmp b.range) a.range f.inside) r e;
  })
    where
      good : (o : Option Range) → EachInside scalar o → (r : Range) → rounded_each ts o ≡ Some r → FitsRange ts r × Within r (span_of scalar)
      good None i r e = cc
      good (Some t) i r e =
          let same : rounded ts t ≡ r = cc in
          let n = round_inside ts law scalar t i in
          (subst (FitsRange ts) same (round_fits ts law scalar t i), subst (λ x. Within x (span_of scalar)) same (subst (λ x. Within (rounded ts t) x) (sym (span_is scalar p)) (record { low = n.low; high = n.high })))

-- ---- equal values
object_same : (a b : Object) → same_object a b ≡ true → a ≡ b
object_same (GlobalObject k) (GlobalObject j) h = ap GlobalObject (eqb-true k j h)
object_same (GlobalObject k) (LocalObject s j) h = cc
object_same (LocalObject s k) (GlobalObject j) h = cc
object_same (LocalObject s k) (LocalObject t j) h = let e : ((s == t) ≡ true) × ((k == j) ≡ true) = two _ _ h in let p = eqb-true s t e.0 in let q = eqb-true k j e.1 in λ i. LocalObject (p i) (q i)

number_same : (z w : ℤ) → (int_le z w && int_le w z) ≡ true → z ≡ w
number_same z w h = let e : (int_le z w ≡ true) × (int_le w z ≡ true) = two _ _ h in let p : z ≤ℤ w = (le_tells z w).is_so e.0 in let q : w ≤ℤ z = (le_tells w z).is_so e.1 in omega (arith, ints)

equal_values : (v w : Value) → compares v Eq w ≡ true → v ≡ w
unfolding compares
equal_values (Number z) (Number w) h = ap Number (number_same z w h)
equal_values (Number z) NullPointer h = cc
equal_values (Number z) (At b j) h = cc
equal_values (Number z) (Code g) h = cc
equal_values NullPointer (Number w) h = cc
equal_values NullPointer NullPointer h = refl
equal_values NullPointer (At b j) h = cc
equal_values NullPointer (Code g) h = cc
equal_values (At a i) (Number w) h = cc
equal_values (At a i) NullPointer h = cc
equal_values (At a i) (Code g) h = cc
equal_values (Code f) (Number w) h = cc
equal_values (Code f) NullPointer h = cc
equal_values (Code f) (At b j) h = cc
equal_values (Code f) (Code g) h = ap Code (same_name_true f g h)
equal_values (At a i) (At b j) h = let e : (same_object a b ≡ true) × ((int_le i j && int_le j i) ≡ true) = two _ _ h in let p = object_same a b e.0 in let q = number_same i j e.1 in λ k. At (p k) (q k)

le_self : (z : ℤ) → (int_le z z && int_le z z) ≡ true
le_self z = both _ _ ((le_tells z z).so_is (omega (arith, ints))) ((le_tells z z).so_is (omega (arith, ints)))

object_self : (a : Object) → same_object a a ≡ true
object_self (GlobalObject k) = eq-eqb k k refl
object_self (LocalObject s k) = both _ _ (eq-eqb s s refl) (eq-eqb k k refl)

unequal_self : (v : Value) → compares v Ne v ≡ true → ⊥
unfolding compares
unequal_self (Number z) h = let e = le_self z in let n : not true ≡ true = subst (λ (b : Bool). not b ≡ true) e h in cc
unequal_self NullPointer h = cc
unequal_self (Code f) h = let n : not true ≡ true = subst (λ (b : Bool). not b ≡ true) (same_name_self f) h in cc
unequal_self (At a i) h = let e : (same_object a a && (int_le i i && int_le i i)) ≡ true = both _ _ (object_self a) (le_self i) in let n : not true ≡ true = subst (λ (b : Bool). not b ≡ true) e h in cc

some_same : (c d : Constant) → Some c ≡ Some d → c ≡ d
some_same c d e = cc

-- values with one constant are the same
same_value : (v w : Value) (c : Constant) → constant_of v ≡ Some c → constant_of w ≡ Some c → v ≡ w
same_value (Number z) (Number w) c h k = let e : Int z ≡ Int w = some_same (Int z) c h ∙ sym (some_same (Int w) c k) in let f : z ≡ w = cc in ap Number f
same_value (Number z) NullPointer c h k = absurd (let e : Int z ≡ Null = some_same (Int z) c h ∙ sym (some_same Null c k) in cc)
same_value (Number z) (At (GlobalObject j) o) c h k = absurd (let e : Int z ≡ Global j o = some_same (Int z) c h ∙ sym (some_same (Global j o) c k) in cc)
same_value (Number z) (At (LocalObject s j) o) c h k = cc
same_value (Number z) (Code g) c h k = cc
same_value NullPointer (Number w) c h k = absurd (let e : Null ≡ Int w = some_same Null c h ∙ sym (some_same (Int w) c k) in cc)
same_value NullPointer NullPointer c h k = refl
same_value NullPointer (At (GlobalObject j) o) c h k = absurd (let e : Null ≡ Global j o = some_same Null c h ∙ sym (some_same (Global j o) c k) in cc)
same_value NullPointer (At (LocalObject s j) o) c h k = cc
same_value NullPointer (Code g) c h k = cc
same_value (Code f) w c h k = cc
same_value (At (LocalObject s i) n) w c h k = cc
same_value (At (GlobalObject i) n) (Number w) c h k = absurd (let e : Global i n ≡ Int w = some_same (Global i n) c h ∙ sym (some_same (Int w) c k) in cc)
same_value (At (GlobalObject i) n) NullPointer c h k = absurd (let e : Global i n ≡ Null = some_same (Global i n) c h ∙ sym (some_same Null c k) in cc)
same_value (At (GlobalObject i) n) (At (LocalObject s j) o) c h k = cc
same_value (At (GlobalObject i) n) (Code g) c h k = cc
same_value (At (GlobalObject i) n) (At (GlobalObject j) o) c h k =
    let e : Global i n ≡ Global j o = some_same (Global i n) c h ∙ sym (some_same (Global j o) c k) in
    let f : i ≡ j = cc in let g : n ≡ o = cc in λ m. At (GlobalObject (f m)) (g m)

false_or : (b : Bool) → (b ≡ true → ⊥) → not b ≡ true
false_or true h = absurd (h refl)
false_or false h = refl

without_holds : (v w : Value) (a b : Vals) → IsAmong (constant_of v) a → IsAmong (constant_of w) b → (v ≡ w → ⊥) → IsAmong (constant_of v) (vals_without a b)
without_holds v w a Any h k n = h
without_holds v w a Nothing h k n = h
without_holds v w a (Among l []) h k n = h
without_holds v w a (Among l (c ∷ (d ∷ ds))) h k n = h
without_holds v w a (Among l (c ∷ [])) h k n = kept_hold (λ d. not (same_by before d c)) a (constant_of v) h (λ d e. false_or (same_by before d c) (λ s. n (same_value v w c (e ∙ ap Some (same_is before constant_order d c s)) (only (constant_of w) c k))))
  where
    only : (o : Option Constant) (c : Constant) → IsListed o (c ∷ []) → o ≡ Some c
    only None c k = absurd k
    only (Some d) c (inl e) = ap Some e
    only (Some d) c (inr m) = absurd m

without_fit : (most : ℕ) (a b : Vals) → FitsVals most a → MayFit most (vals_without a b)
without_fit most a (Among l (c ∷ [])) f = kept_fit most (λ d. not (same_by before d c)) a f
without_fit most a Any f = fit_may most a f
  where
    fit_may : (most : ℕ) (a : Vals) → FitsVals most a → MayFit most a
    fit_may most Any f = tt
    fit_may most Nothing f = absurd f
    fit_may most (Among l xs) f = f
without_fit most Any Nothing f = tt
without_fit most Nothing Nothing f = absurd f
without_fit most (Among l xs) Nothing f = f
without_fit most Any (Among l []) f = tt
without_fit most Nothing (Among l []) f = absurd f
without_fit most (Among k xs) (Among l []) f = f
without_fit most Any (Among l (c ∷ (d ∷ ds))) f = tt
without_fit most Nothing (Among l (c ∷ (d ∷ ds))) f = absurd f
without_fit most (Among k xs) (Among l (c ∷ (d ∷ ds))) f = f

without_of : (scalar : Scalar) (a b : Vals) → ValsOf scalar a → ValsOf scalar (vals_without a b)
without_of scalar a Any f = f
without_of scalar a Nothing f = f
without_of scalar a (Among l []) f = f
without_of scalar a (Among l (c ∷ [])) f = kept_of scalar (λ d. not (same_by before d c)) a f
without_of scalar a (Among l (c ∷ (d ∷ ds))) f = f

clash : (b : Bool) → b ≡ true → b ≡ false → ⊥
clash true e f = cc
clash false e f = cc

pub int_order : (cmp : Cmp) (scalar : Scalar) → MayCompare cmp scalar → is_equality cmp ≡ false → is_pointer scalar ≡ false
int_order cmp scalar (inl p) e = p
int_order cmp scalar (inr q) e = absurd (clash (is_equality cmp) q e)

pub refine_holds : RefineHolds
unfolding refined_of
refine_holds most ts law cmp scalar al a b fa oa fb ob v w kv kw hv hw n =
    elim (none_or_not most ts a fa) [
      | inl x ↦ absurd (x.1 v hv)
      | inr i ↦ elim (none_or_not most ts b fb) [
        | inl x ↦ absurd (x.1 w hw)
        | inr j ↦ subst (Holds v) (sym (unless_proper a b _ i.0 j.0)) (by cmp al n i.0 j.0)
      ]
    ]
  where
    ordered : (c : Cmp) → MayCompare c scalar → is_equality c ≡ false → compares v c w ≡ true → is_none_val a ≡ false → is_none_val b ≡ false → Holds v (ordered_left c ts a b)
    ordered c al e n i j = let p = int_order c scalar al e in order_holds most ts law c scalar p a b v w (proper_by most ts scalar a fa oa p i) (proper_by most ts scalar b fb ob p j) kv kw hv hw n

    by : (c : Cmp) → MayCompare c scalar → compares v c w ≡ true → is_none_val a ≡ false → is_none_val b ≡ false → Holds v (refined_proper c ts a b)
    by Eq al n i j = meet_holds_all most ts a b fa fb v hv (subst (λ y. Holds y b) (sym (equal_values v w n)) hw)
    by Ne al n i j = assembled_holds v (vals_without a.vals b.vals) a.bits (Some a.range) (without_holds v w a.vals b.vals hv.vals hw.vals (λ e. unequal_self v (subst (λ y. compares v Ne y ≡ true) (sym e) n))) hv.bits hv.range
    by Lt al n i j = ordered Lt al refl n i j
    by Le al n i j = ordered Le al refl n i j
    by Gt al n i j = ordered Gt al refl n i j
    by Ge al n i j = ordered Ge al refl n i j

pub refine_fits : RefineFits
unfolding refined_of
refine_fits most ts law cmp scalar al a b fa oa fb ob = unless_good most ts scalar a b _ (λ i j. by cmp al i j)
  where
    ordered : (c : Cmp) → MayCompare c scalar → is_equality c ≡ false → is_none_val a ≡ false → IsGood most ts scalar (ordered_left c ts a b)
    ordered c al e i = let p = int_order c scalar al e in order_good most ts law c scalar p a b (proper_by most ts scalar a fa oa p i)

    left : FitsWith most ts a → IsOf scalar a → is_none_val a ≡ false → IsGood most ts scalar (assembled (vals_without a.vals b.vals) (Some a.bits) (Some a.range))
    left (inl n) o i = absurd (clash (is_none_val a) n.bare i)
    left (inr p) (inl n) i = absurd (clash (is_none_val a) n i)
    left (inr p) (inr q) i = assembled_good most ts scalar _ _ _ (record {
      vals = without_fit most a.vals b.vals p.first;
      kind = without_of scalar a.vals b.vals q.vals;
      within = p.second.within;
      mask = q.mask;
      range = λ r e. let s : a.range ≡ r = cc in (subst (FitsRange ts) s p.third, subst (λ x. Within x (span_of scalar)) s q.range);
    })

    by : (c : Cmp) → MayCompare c scalar → is_none_val a ≡ false → is_none_val b ≡ false → IsGood most ts scalar (refined_proper c ts a b)
    by Eq al i j = meet_fits_all most ts scalar a b fa oa fb ob
    by Ne al i j = left fa oa i
    by Lt al i j = ordered Lt al refl i
    by Le al i j = ordered Le al refl i
    by Gt al i j = ordered Gt al refl i
    by Ge al i j = ordered Ge al refl i
