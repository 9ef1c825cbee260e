-- The laws of the operators on all values of their scalars.
use Rattle.std.proofs.Common.{cond, ◌≡◌, ℕ, ℤ, pos, ◌+ℤ◌, ◌⊎◌, inl, inr, Bool, true, false, refl, sym, ◌∙◌, ap, subst, arith, List, Some, None, Result, Ok}
use Rattle.std.proofs.lemmas.Int.{ints}
use Rattle.gimple_ir.specs.declared.scalar.Scalar.{Scalar}
use Rattle.gimple_ir.specs.declared.scalar.Scalar.TheVariants.{I64, Ptr}
use Rattle.gimple_ir.specs.declared.scalar.Mode.{Mode}
use Rattle.gimple_ir.specs.declared.scalar.Op.{Op}
use Rattle.gimple_ir.specs.declared.scalar.Op.TheVariants.{Add}
use Rattle.gimple_ir.specs.declared.value.TrapKind.{TrapKind}
use Rattle.gimple_ir.specs.declared.value.Value.{Value}
use Rattle.gimple_ir.specs.declared.value.Value.TheVariants.{Int as Number, Null as NullPointer, At, Code}
use Rattle.gimple_ir.specs.declared.value.Object.TheVariants.{Global as GlobalObject, Local as LocalObject}
use Rattle.gimple_ir.specs.declared.value.Constant.{Constant}
use Rattle.gimple_ir.specs.declared.value.Constant.TheVariants.{Int, Null, Global}
use Rattle.gimple_core.specs.Operators.{in_scalar, wrapped}
use Rattle.gimple_core.specs.Memory.{moved_by}
use Rattle.gimple_core.specs.Run.{arith_of, any_number, compares, one_if}
use Rattle.gimple_core.specs.Statements.{is_pointer}
use Rattle.gimple_core.specs.State.{is_of}
use Rattle.gimple_core.proofs.ScalarLemmas.{pointer_is}
use Rattle.value_domain.specs.declared.vals.Vals.{Vals}
use Rattle.value_domain.specs.declared.abs_val.AbsVal.{AbsVal}
use Rattle.value_domain.specs.Bitmasks.{pattern}
use Rattle.value_domain.specs.Ranges.{InRange, Within, FitsRange}
use Rattle.value_domain.specs.BitOperators.{unknown_bits, converted_bits}
use Rattle.value_domain.specs.RangeOperators.{rounded, convert_range}
use Rattle.value_domain.specs.ConstantOperators.{constant_in, moved_constant, op_constant, cmp_constant, convert_constant, pairs_vals, mapped_vals}
use Rattle.value_domain.specs.AbsOperators.{assembled, zero_range, bits_under, range_under, bits_compared, range_compared, abs_op_of, abs_cmp_of, abs_convert_of}
use Rattle.value_domain.specs.Values.{none_val, is_none_val, FitsVals, FitsWith, abs_val_below}
use Rattle.value_domain.specs.ValueLemmas.{abs_apart}
use Rattle.value_domain.specs.Thresholds.{IsLawful}
use Rattle.value_domain.specs.Holding.{Holds, IsAmong, constant_of, number_part, IsOf, IsAllowed}
use Rattle.value_domain.specs.Laws.{OpHolds, OpRises, OpFits, CmpHolds, CmpRises, CmpFits, ConvertHolds, ConvertRises, ConvertFits}
use Rattle.value_domain.proofs.BitSoundness.{unknown_holds}
use Rattle.value_domain.proofs.BitOrder.{below_unknown}
use Rattle.value_domain.proofs.ValsLaws.{pairs_hold, none_left, pairs_fit, pairs_of, pairs_rise}
use Rattle.value_domain.proofs.WholeLemmas.{number_value, ProperOf, proper_of, none_holds, assembled_holds, unless_proper, IsGood, none_good, assembled_good, unless_good, PartsBelow, parts_below_is, assembled_rises, unless_rises}
use Rattle.value_domain.proofs.OperatorLaws.{any_is, int_holds, int_good, int_rises}
use Rattle.value_domain.proofs.CompareLaws.{cmp_good, cmp_int_holds, cmp_ptr_holds, cmp_rises, convert_good, convert_holds, convert_rises}
use Rattle.value_domain.proofs.CodeLemmas.{right_int}

abbrev fine : Value → Result Value TrapKind
fine x = Ok x

clash : (b : Bool) → b ≡ true → b ≡ false → ⊥
clash true e f = cc
clash false e f = cc

-- a value that fits is none, or not
pub none_or_not : (most : ℕ) (ts : List ℤ) (a : AbsVal) → FitsWith most ts a → ((is_none_val a ≡ true) × ((v : Value) → Holds v a → ⊥)) ⊎ ((is_none_val a ≡ false) × FitsVals most a.vals)
none_or_not most ts a (inl n) = inl (n.bare, λ v h. none_holds v a (abs_apart a none_val n.is) h)
none_or_not most ts a (inr p) = inr (p.full, p.first)

-- ---- a pointer moved by a number
okay_value : (x y : Value) → fine x ≡ fine y → x ≡ y
okay_value x y e = cc

moved_is : (mode : Mode) (v : Value) (w : ℤ) (x : Value) → in_scalar I64 w ≡ true → arith_of mode Ptr v Add (Number w) ≡ fine x → x ≡ moved_by v w
unfolding arith_of
moved_is mode v w x e h = sym (okay_value (moved_by v (any_number (Number w))) x h) ∙ ap (moved_by v) (any_is I64 w e)

module _ (most : ℕ) (ts : List ℤ) (law : IsLawful ts) (mode : Mode) where
  ptr_vals : (v : Value) (w : ℤ) (x y : Vals) → is_of Ptr v ≡ true → in_scalar I64 w ≡ true → IsAmong (constant_of v) x → IsAmong (Some (Int w)) y → IsAmong (constant_of (moved_by v w)) (pairs_vals most (op_constant mode Add Ptr) x y) × (number_part (moved_by v w) ≡ pos 0)
  unfolding moved_by
  ptr_vals (Number z) w x y e k h m = cc
  ptr_vals NullPointer w x y e k h m = (pairs_hold most (op_constant mode Add Ptr) x y Null (Int w) Null h m refl, refl)
  ptr_vals (At (GlobalObject j) o) w x y e k h m = (pairs_hold most (op_constant mode Add Ptr) x y (Global j o) (Int w) (Global j (wrapped I64 (o +ℤ w))) h m (rw k refl), refl)
  ptr_vals (At (LocalObject s j) o) w x y e k h m = (none_left most (op_constant mode Add Ptr) x y (constant_of (moved_by (At (LocalObject s j) o) w)) h, refl)
  ptr_vals (Code name) w x y e k h m = (none_left most (op_constant mode Add Ptr) x y None h, refl)

  ptr_holds : (a b : AbsVal) (v w x : Value) → is_of Ptr v ≡ true → is_of I64 w ≡ true → Holds v a → Holds w b → arith_of mode Ptr v Add w ≡ fine x → Holds x (assembled (pairs_vals most (op_constant mode Add Ptr) a.vals b.vals) (Some unknown_bits) (Some zero_range))
  ptr_holds a b v w x e k h m n =
      let u = number_value I64 w refl k in
      let m2 : Holds (Number u.0) b = subst (λ y. Holds y b) u.1 m in
      let s : x ≡ moved_by v u.0 = moved_is mode v u.0 x u.2 (subst (λ y. arith_of mode Ptr v Add y ≡ fine x) u.1 n) in
      let p = ptr_vals v u.0 a.vals b.vals e u.2 h.vals m2.vals in
      let done : Holds (moved_by v u.0) (assembled (pairs_vals most (op_constant mode Add Ptr) a.vals b.vals) (Some unknown_bits) (Some zero_range)) =
      assembled_holds (moved_by v u.0) _ unknown_bits (Some zero_range) p.0 (unknown_holds (pattern (number_part (moved_by v u.0)))) (subst (λ (z : ℤ). InRange z zero_range) (sym p.1) (record { from = omega (arith, ints); to = omega (arith, ints) })) in
      subst (λ y. Holds y (assembled (pairs_vals most (op_constant mode Add Ptr) a.vals b.vals) (Some unknown_bits) (Some zero_range))) (sym s) done

  moved_in : (c d e : Constant) → moved_constant c d ≡ Some e → constant_in Ptr e ≡ true
  moved_in (Int z) d e h = cc
  moved_in Null d e h = let i : Null ≡ e = cc in subst (λ x. constant_in Ptr x ≡ true) i refl
  moved_in (Global k o) Null e h = cc
  moved_in (Global k o) (Global j p) e h = cc
  moved_in (Global k o) (Int n) e h = by (in_scalar I64 n) h
    where
      by : (b : Bool) → cond b (Some (Global k (wrapped I64 (o +ℤ n)))) None ≡ Some e → constant_in Ptr e ≡ true
      by true g = let i : Global k (wrapped I64 (o +ℤ n)) ≡ e = cc in subst (λ x. constant_in Ptr x ≡ true) i refl
      by false g = cc

  ptr_good : (a b : AbsVal) → IsGood most ts Ptr (assembled (pairs_vals most (op_constant mode Add Ptr) a.vals b.vals) (Some unknown_bits) (Some zero_range))
  ptr_good a b = assembled_good most ts Ptr _ _ _ (record {
    vals = pairs_fit most (op_constant mode Add Ptr) a.vals b.vals;
    kind = pairs_of Ptr most (op_constant mode Add Ptr) a.vals b.vals moved_in;
    within = refl;
    mask = omega arith;
    range = λ r e. let i : zero_range ≡ r = cc in (subst (FitsRange ts) i (record { low = law.truths.0; high = law.truths.0; full = omega (arith, ints) }), subst (λ x. Within x zero_range) i (record { low = omega (arith, ints); high = omega (arith, ints) }));
  })

  ptr_rises : (a b c d : AbsVal) → FitsVals most a.vals → FitsVals most b.vals → FitsVals most c.vals → FitsVals most d.vals → PartsBelow a c → PartsBelow b d → abs_val_below (assembled (pairs_vals most (op_constant mode Add Ptr) a.vals b.vals) (Some unknown_bits) (Some zero_range)) (assembled (pairs_vals most (op_constant mode Add Ptr) c.vals d.vals) (Some unknown_bits) (Some zero_range)) ≡ true
  ptr_rises a b c d f g i j h k = assembled_rises _ _ _ _ _ _ (pairs_rise most (op_constant mode Add Ptr) a.vals b.vals c.vals d.vals f g i j h.vals k.vals) (below_unknown unknown_bits) (record { low = omega (arith, ints); high = omega (arith, ints) }) (omega (arith, ints)) (omega (arith, ints))

-- ---- arithmetic
pub op_holds : OpHolds
unfolding abs_op_of
op_holds most ts law mode op scalar other al a b fa oa fb ob v w x kv kw hv hw e =
    elim (none_or_not most ts a fa) [
      | inl n ↦ absurd (n.1 v hv)
      | inr p ↦ elim (none_or_not most ts b fb) [
        | inl n ↦ absurd (n.1 w hw)
        | inr q ↦ subst (Holds x) (sym (unless_proper a b _ p.0 q.0)) (by al)
      ]
    ]
  where
    by : IsAllowed op scalar other → Holds x (assembled (pairs_vals most (op_constant mode op scalar) a.vals b.vals) (Some (bits_under mode op scalar other a.bits b.bits)) (range_under mode op scalar ts a.range b.range))
    by (inl t) =
        let s = pointer_is scalar t.0 in
        let P : Scalar → Op → Scalar → Type 0 = λ s o r. is_of s v ≡ true → is_of r w ≡ true → arith_of mode s v o w ≡ fine x → Holds x (assembled (pairs_vals most (op_constant mode o s) a.vals b.vals) (Some (bits_under mode o s r a.bits b.bits)) (range_under mode o s ts a.range b.range)) in
        let at : P Ptr Add I64 = λ g h i. ptr_holds most ts law mode a b v w x g h hv hw i in
        subst (λ s. P s op other) (sym s) (subst (λ o. P Ptr o other) (sym t.1) (subst (λ r. P Ptr Add r) (sym t.2) at)) kv kw e
    by (inr t) =
        let r = right_int op scalar other (inr t) t.0 in
        elim (proper_of most ts scalar a fa oa t.0) [
          | inl n ↦ absurd (none_holds v a n hv)
          | inr f ↦ elim (proper_of most ts other b fb ob r.1) [
            | inl n ↦ absurd (none_holds w b n hw)
            | inr g ↦ int_holds most ts law mode op scalar other t.0 r.1 r.0 a b v w x f g kv kw hv hw e
          ]
        ]

none_full : (a : AbsVal) → a ≡ none_val → is_none_val a ≡ false → ⊥
none_full a e f = let t : is_none_val a ≡ true = ap is_none_val e in clash (is_none_val a) t f

pub op_fits : OpFits
unfolding abs_op_of
op_fits most ts law mode op scalar other al a b fa oa fb ob = unless_good most ts scalar a b _ (λ p q. by al p q)
  where
    by : IsAllowed op scalar other → is_none_val a ≡ false → is_none_val b ≡ false → IsGood most ts scalar (assembled (pairs_vals most (op_constant mode op scalar) a.vals b.vals) (Some (bits_under mode op scalar other a.bits b.bits)) (range_under mode op scalar ts a.range b.range))
    by (inl t) p q =
        let s = pointer_is scalar t.0 in
        let P : Scalar → Op → Scalar → Type 0 = λ s o r. IsGood most ts s (assembled (pairs_vals most (op_constant mode o s) a.vals b.vals) (Some (bits_under mode o s r a.bits b.bits)) (range_under mode o s ts a.range b.range)) in
        let at : P Ptr Add I64 = ptr_good most ts law mode a b in
        subst (λ s. P s op other) (sym s) (subst (λ o. P Ptr o other) (sym t.1) (subst (λ r. P Ptr Add r) (sym t.2) at))
    by (inr t) p q =
        let r = right_int op scalar other (inr t) t.0 in
        elim (proper_of most ts scalar a fa oa t.0) [
          | inl n ↦ absurd (none_full a n p)
          | inr f ↦ elim (proper_of most ts other b fb ob r.1) [
            | inl n ↦ absurd (none_full b n q)
            | inr g ↦ int_good most ts law mode op scalar other t.0 r.1 r.0 a b f g
          ]
        ]

pub op_rises : OpRises
unfolding abs_op_of
op_rises most ts law mode op scalar other al a b c d fa oa fb ob fc oc fd od h k = unless_rises a b c d _ _ h k (λ p q u w i j. by al p q u w i j)
  where
    vals_of_fit : (a : AbsVal) → FitsWith most ts a → is_none_val a ≡ false → FitsVals most a.vals
    vals_of_fit a f n = elim (none_or_not most ts a f) [ inl t ↦ absurd (clash (is_none_val a) t.0 n) | inr t ↦ t.1 ]

    by : IsAllowed op scalar other → is_none_val a ≡ false → is_none_val b ≡ false → is_none_val c ≡ false → is_none_val d ≡ false → PartsBelow a c → PartsBelow b d
        → abs_val_below (assembled (pairs_vals most (op_constant mode op scalar) a.vals b.vals) (Some (bits_under mode op scalar other a.bits b.bits)) (range_under mode op scalar ts a.range b.range)) (assembled (pairs_vals most (op_constant mode op scalar) c.vals d.vals) (Some (bits_under mode op scalar other c.bits d.bits)) (range_under mode op scalar ts c.range d.range)) ≡ true
    by (inl t) p q u w i j =
        let s = pointer_is scalar t.0 in
        let P : Scalar → Op → Scalar → Type 0 = λ s o r. abs_val_below (assembled (pairs_vals most (op_constant mode o s) a.vals b.vals) (Some (bits_under mode o s r a.bits b.bits)) (range_under mode o s ts a.range b.range)) (assembled (pairs_vals most (op_constant mode o s) c.vals d.vals) (Some (bits_under mode o s r c.bits d.bits)) (range_under mode o s ts c.range d.range)) ≡ true in
        let at : P Ptr Add I64 = ptr_rises most ts law mode a b c d (vals_of_fit a fa p) (vals_of_fit b fb q) (vals_of_fit c fc u) (vals_of_fit d fd w) i j in
        subst (λ s. P s op other) (sym s) (subst (λ o. P Ptr o other) (sym t.1) (subst (λ r. P Ptr Add r) (sym t.2) at))
    by (inr t) p q u w i j =
        let r = right_int op scalar other (inr t) t.0 in
        int_rises most ts law mode op scalar other t.0 r.1 r.0 a b c d (proper scalar a fa oa t.0 p) (proper other b fb ob r.1 q) (proper scalar c fc oc t.0 u) (proper other d fd od r.1 w) i j
      where
        proper : (s : Scalar) (a : AbsVal) → FitsWith most ts a → IsOf s a → is_pointer s ≡ false → is_none_val a ≡ false → ProperOf most ts s a
        proper s a f o e n = elim (proper_of most ts s a f o e) [ inl t ↦ absurd (none_full a t n) | inr t ↦ t ]

-- ---- comparison
fit_vals : (most : ℕ) (ts : List ℤ) (a : AbsVal) → FitsWith most ts a → is_none_val a ≡ false → FitsVals most a.vals
fit_vals most ts a f n = elim (none_or_not most ts a f) [ inl t ↦ absurd (clash (is_none_val a) t.0 n) | inr t ↦ t.1 ]

pub proper_by : (most : ℕ) (ts : List ℤ) (s : Scalar) (a : AbsVal) → FitsWith most ts a → IsOf s a → is_pointer s ≡ false → is_none_val a ≡ false → ProperOf most ts s a
proper_by most ts s a f o e n = elim (proper_of most ts s a f o e) [ inl t ↦ absurd (none_full a t n) | inr t ↦ t ]

pub cmp_holds : CmpHolds
unfolding abs_cmp_of
cmp_holds most ts law target cmp scalar q a b fa oa fb ob v w kv kw hv hw =
    elim (none_or_not most ts a fa) [
      | inl n ↦ absurd (n.1 v hv)
      | inr i ↦ elim (none_or_not most ts b fb) [
        | inl n ↦ absurd (n.1 w hw)
        | inr j ↦ subst (Holds (one_if (compares v cmp w))) (sym (unless_proper a b _ i.0 j.0)) (by (is_pointer scalar) refl i.0 j.0)
      ]
    ]
  where
    by : (t : Bool) → is_pointer scalar ≡ t → is_none_val a ≡ false → is_none_val b ≡ false → Holds (one_if (compares v cmp w)) (assembled (pairs_vals most (cmp_constant cmp) a.vals b.vals) (Some (bits_compared target cmp scalar a.bits b.bits)) (Some (range_compared cmp scalar a.range b.range)))
    by true e i j = cmp_ptr_holds most ts law target cmp scalar q e a b v w kv kw hv hw
    by false e i j = cmp_int_holds most ts law target cmp scalar q e a b v w (proper_by most ts scalar a fa oa e i) (proper_by most ts scalar b fb ob e j) kv kw hv hw

pub cmp_fits : CmpFits
unfolding abs_cmp_of
cmp_fits most ts law target cmp scalar q a b = unless_good most ts target a b _ (λ _ _. cmp_good most ts law target cmp scalar q a b)

pub cmp_rises_all : CmpRises
unfolding abs_cmp_of
cmp_rises_all most ts law target cmp scalar q a b c d fa oa fb ob fc oc fd od h k = unless_rises a b c d _ _ h k (λ i j u w m n.
    cmp_rises most ts law target cmp scalar q a b c d (fit_vals most ts a fa i) (fit_vals most ts b fb j) (fit_vals most ts c fc u) (fit_vals most ts d fd w) m n
    (λ e. let f = proper_by most ts scalar a fa oa e i in let g = proper_by most ts scalar b fb ob e j in (f.bits, g.bits, f.inside.full, g.inside.full)))

-- ---- conversion
pub convert_holds_all : ConvertHolds
unfolding abs_convert_of
convert_holds_all most ts law target source q p a fa oa v kv hv = elim (none_or_not most ts a fa) [
  | inl n ↦ absurd (n.1 v hv)
  | inr i ↦ rw (i.0) (convert_holds most ts law target source q p a v (proper_by most ts source a fa oa p i.0) kv hv)
]

pub convert_fits : ConvertFits
unfolding abs_convert_of
convert_fits most ts law target source q p a fa oa = by (is_none_val a) refl
  where
    by : (t : Bool) → is_none_val a ≡ t → IsGood most ts target (cond t none_val (assembled (mapped_vals most (convert_constant target) a.vals) (Some (converted_bits target source a.bits)) (Some (rounded ts (convert_range target a.range)))))
    by true e = none_good most ts target
    by false e = convert_good most ts law target source q p a (proper_by most ts source a fa oa p e)

pub convert_rises_all : ConvertRises
unfolding abs_convert_of
convert_rises_all most ts law target source q p a c fa oa fc oc h = by (is_none_val a) refl
  where
    by : (t : Bool) → is_none_val a ≡ t → abs_val_below (cond t none_val (assembled (mapped_vals most (convert_constant target) a.vals) (Some (converted_bits target source a.bits)) (Some (rounded ts (convert_range target a.range))))) (abs_convert_of target source most ts c) ≡ true
    by true e = refl
    by false e =
        let u = parts_below_is a c e h in
        rw (u.0) (convert_rises most ts law target source q p a c (proper_by most ts source a fa oa p e) (proper_by most ts source c fc oc p u.0) u.1)
