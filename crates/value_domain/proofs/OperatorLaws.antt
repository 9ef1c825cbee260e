-- The operators on abstract values: they hold the results, are monotone and fit.
use Rattle.std.proofs.Common.{cond, ◌≡◌, ℕ, ◌^◌, ◌<◌, ℤ, pos, ◌≤ℤ◌, ◌<ℤ◌, ◌⊎◌, inl, inr, Bool, true, false, ◌&&◌, refl, sym, ◌∙◌, ap, subst, arith, int_le, List, Option, Some, None, Result, Ok, Err}
use Rattle.std.proofs.lemmas.Int.{ints}
use Rattle.gimple_ir.specs.declared.scalar.Scalar.{Scalar}
use Rattle.gimple_ir.specs.declared.scalar.Scalar.TheVariants.{I8, I16, I32, I64, U8, U16, U32, U64, Ptr}
use Rattle.gimple_ir.specs.declared.scalar.Mode.{Mode}
use Rattle.gimple_ir.specs.declared.scalar.Op.{Op}
use Rattle.gimple_ir.specs.declared.scalar.Op.TheVariants.{Add, Sub, Mul, Div, Rem, And, Or, Xor, Shl, Shr}
use Rattle.gimple_ir.specs.declared.value.TrapKind.{TrapKind}
use Rattle.gimple_ir.specs.declared.value.Value.{Value}
use Rattle.gimple_ir.specs.declared.value.Value.TheVariants.{Int as Number}
use Rattle.gimple_ir.specs.declared.value.Constant.{Constant}
use Rattle.gimple_ir.specs.declared.value.Constant.TheVariants.{Int, Null, Global}
use Rattle.gimple_core.specs.Operators.{in_scalar, op_of}
use Rattle.gimple_core.specs.State.{number_in, is_of}
use Rattle.gimple_core.specs.Run.{arith_of, value_result, any_number, right_number}
use Rattle.gimple_core.specs.Statements.{is_pointer}
use Rattle.value_domain.specs.declared.bits.Bits.{Bits}
use Rattle.value_domain.specs.declared.range.Range.{Range}
use Rattle.value_domain.specs.declared.abs_val.AbsVal.{AbsVal}
use Rattle.value_domain.specs.Bitmasks.{pattern, Agrees, AreBelow}
use Rattle.value_domain.specs.Ranges.{InRange, InEach, Within, WithinEach, FitsRange}
use Rattle.value_domain.specs.RangeOperators.{type_range, IsInside, lowest, highest, rounded, rounded_each, op_range}
use Rattle.value_domain.specs.BitOperators.{op_bits}
use Rattle.value_domain.specs.ConstantOperators.{constant_in, in_word, may_stand_right, number_result, number_constants, moved_constant, op_constant, pairs_vals}
use Rattle.value_domain.specs.AbsOperators.{assembled, span_of, bits_under, range_under}
use Rattle.value_domain.specs.Values.{abs_val_below}
use Rattle.value_domain.specs.Thresholds.{IsLawful}
use Rattle.value_domain.specs.Holding.{Holds, IsRight}
use Rattle.value_domain.proofs.ScalarLemmas.{okay, two, both, in_type, in_type_is, type_word}
use Rattle.value_domain.proofs.AgreeLemmas.{BitsOf}
use Rattle.value_domain.proofs.BitLaws.{op_bits_hold, op_bits_of, op_bits_monotone}
use Rattle.value_domain.proofs.RangeLaws.{op_range_holds, op_range_inside, op_range_monotone, round_each_holds, round_inside, round_fits}
use Rattle.value_domain.proofs.RoundingLemmas.{rounded_monotone}
use Rattle.value_domain.proofs.FitSoundness.{EachInside}
use Rattle.value_domain.proofs.ValsLaws.{pairs_hold, pairs_fit, pairs_of, pairs_rise}
use Rattle.value_domain.proofs.WholeLemmas.{width_is, span_is, number_value, ProperOf, assembled_holds, IsGood, assembled_good, PartsBelow, assembled_rises, IsFullOption}

-- ---- the run's arithmetic on numbers of a scalar
number_is : (scalar : Scalar) (z : ℤ) → in_scalar scalar z ≡ true → number_in scalar (Number z) ≡ z
unfolding number_in
number_is scalar z e = rw e refl

pub any_is : (scalar : Scalar) (z : ℤ) → in_scalar scalar z ≡ true → any_number (Number z) ≡ z
any_is scalar z e = by (int_le (pos 0) z) refl
  where
    w : InRange z (type_range scalar)
    w = in_type scalar z e

    by : (b : Bool) → int_le (pos 0) z ≡ b → cond b (number_in U64 (Number z)) (number_in I64 (Number z)) ≡ z
    by true f = number_is U64 z (in_type_is U64 z (above f))
      where
        above : int_le (pos 0) z ≡ true → InRange z (type_range U64)
        above f = let p : pos 0 ≤ℤ z = grind (arith, ints) in let q = (type_word scalar).1 in record { from = p; to = omega (arith, ints, w.to, q) }
    by false f = number_is I64 z (in_type_is I64 z (below f))
      where
        below : int_le (pos 0) z ≡ false → InRange z (type_range I64)
        below f = let p : z <ℤ pos 0 = grind (arith, ints) in let q = (type_word scalar).0 in record { from = omega (arith, ints, w.from, q); to = omega (arith, ints) }

right_is : (op : Op) (scalar other : Scalar) (z : ℤ) → IsRight op scalar other → in_scalar other z ≡ true → right_number op scalar (Number z) ≡ z
right_is Add scalar other z s e = number_is scalar z (subst (λ o. in_scalar o z ≡ true) s e)
right_is Sub scalar other z s e = number_is scalar z (subst (λ o. in_scalar o z ≡ true) s e)
right_is Mul scalar other z s e = number_is scalar z (subst (λ o. in_scalar o z ≡ true) s e)
right_is Div scalar other z s e = number_is scalar z (subst (λ o. in_scalar o z ≡ true) s e)
right_is Rem scalar other z s e = number_is scalar z (subst (λ o. in_scalar o z ≡ true) s e)
right_is And scalar other z s e = number_is scalar z (subst (λ o. in_scalar o z ≡ true) s e)
right_is Or scalar other z s e = number_is scalar z (subst (λ o. in_scalar o z ≡ true) s e)
right_is Xor scalar other z s e = number_is scalar z (subst (λ o. in_scalar o z ≡ true) s e)
right_is Shl scalar other z s e = any_is other z e
right_is Shr scalar other z s e = any_is other z e

arith_int : (mode : Mode) (scalar : Scalar) (v : Value) (op : Op) (w : Value) → is_pointer scalar ≡ false → arith_of mode scalar v op w ≡ value_result (op_of mode op scalar (number_in scalar v) (right_number op scalar w))
unfolding arith_of
arith_int mode I8 v op w e = refl
arith_int mode I16 v op w e = refl
arith_int mode I32 v op w e = refl
arith_int mode I64 v op w e = refl
arith_int mode U8 v op w e = refl
arith_int mode U16 v op w e = refl
arith_int mode U32 v op w e = refl
arith_int mode U64 v op w e = refl
arith_int mode Ptr v op w e = cc

abbrev fine : Value → Result Value TrapKind
fine x = Ok x

result_is : (r : Result ℤ TrapKind) (x : Value) → value_result r ≡ fine x → (y : ℤ) × (r ≡ okay y) × (x ≡ Number y)
result_is (Ok y) x e = (y, refl, sym (same (Number y) x e))
  where
    same : (u v : Value) → fine u ≡ fine v → u ≡ v
    same u v e = cc
result_is (Err kind) x e = cc

pub arith_number : (mode : Mode) (op : Op) (scalar other : Scalar) (z w : ℤ) (x : Value) → is_pointer scalar ≡ false → IsRight op scalar other → in_scalar scalar z ≡ true → in_scalar other w ≡ true → arith_of mode scalar (Number z) op (Number w) ≡ fine x → (y : ℤ) × (op_of mode op scalar z w ≡ okay y) × (x ≡ Number y)
arith_number mode op scalar other z w x p s e f h =
    result_is (op_of mode op scalar z w) x
    (sym (ap (λ (n : ℤ). value_result (op_of mode op scalar n w)) (number_is scalar z e)) ∙ (sym (ap (λ (n : ℤ). value_result (op_of mode op scalar (number_in scalar (Number z)) n)) (right_is op scalar other w s f)) ∙ (sym (arith_int mode scalar (Number z) op (Number w) p) ∙ h)))

pub arith_back : (mode : Mode) (op : Op) (scalar other : Scalar) (z w y : ℤ) → is_pointer scalar ≡ false → IsRight op scalar other → in_scalar scalar z ≡ true → in_scalar other w ≡ true → op_of mode op scalar z w ≡ okay y → arith_of mode scalar (Number z) op (Number w) ≡ fine (Number y)
arith_back mode op scalar other z w y p s e f h =
    arith_int mode scalar (Number z) op (Number w) p ∙ (ap (λ (n : ℤ). value_result (op_of mode op scalar n (right_number op scalar (Number w)))) (number_is scalar z e) ∙ (ap (λ (n : ℤ). value_result (op_of mode op scalar z n)) (right_is op scalar other w s f) ∙ ap value_result h))

-- ---- constants
word_is : (scalar : Scalar) (z : ℤ) → in_scalar scalar z ≡ true → in_word z ≡ true
word_is scalar z e = let h = in_type scalar z e in let w = type_word scalar in both _ _ (le lowest z (omega (arith, ints, h.from, w.0))) (le z highest (omega (arith, ints, h.to, w.1)))
  where
    le : (a b : ℤ) → a ≤ℤ b → int_le a b ≡ true
    le a b h = grind (arith, ints)

pub stands : (op : Op) (scalar other : Scalar) (z : ℤ) → IsRight op scalar other → in_scalar other z ≡ true → may_stand_right op scalar z ≡ true
stands Add scalar other z s e = subst (λ o. in_scalar o z ≡ true) s e
stands Sub scalar other z s e = subst (λ o. in_scalar o z ≡ true) s e
stands Mul scalar other z s e = subst (λ o. in_scalar o z ≡ true) s e
stands Div scalar other z s e = subst (λ o. in_scalar o z ≡ true) s e
stands Rem scalar other z s e = subst (λ o. in_scalar o z ≡ true) s e
stands And scalar other z s e = subst (λ o. in_scalar o z ≡ true) s e
stands Or scalar other z s e = subst (λ o. in_scalar o z ≡ true) s e
stands Xor scalar other z s e = subst (λ o. in_scalar o z ≡ true) s e
stands Shl scalar other z s e = word_is other z e
stands Shr scalar other z s e = word_is other z e

abbrev number_some : ℤ → Option Constant
number_some y = Some (Int y)

constant_result : (mode : Mode) (op : Op) (scalar other : Scalar) (z w y : ℤ) → is_pointer scalar ≡ false → IsRight op scalar other → in_scalar scalar z ≡ true → in_scalar other w ≡ true → op_of mode op scalar z w ≡ okay y → op_constant mode op scalar (Int z) (Int w) ≡ number_some y
constant_result mode op scalar other z w y p s e f h = rw (p, e, stands op scalar other w s f, h) refl

-- a result of an integer operator is a number of its scalar
op_in : (mode : Mode) (op : Op) (scalar other : Scalar) (z w y : ℤ) → IsRight op scalar other → in_scalar scalar z ≡ true → in_scalar other w ≡ true → op_of mode op scalar z w ≡ okay y → InRange y (type_range scalar)
op_in mode op scalar other z w y s e f h = in_each (op_range mode op scalar r t) (op_range_inside mode op scalar other r t s ri ti) (op_range_holds mode op scalar other z w y r t s ri ti (self z) (self w) h)
  where
    r : Range
    r = record { low = z; high = z }

    t : Range
    t = record { low = w; high = w }

    self : (n : ℤ) → InRange n (record { low = n; high = n })
    self n = record { from = omega (arith, ints); to = omega (arith, ints) }

    ri : IsInside scalar (record { low = z; high = z })
    ri = let h = in_type scalar z e in record { low = h.from; high = h.to; full = omega (arith, ints) }

    ti : IsInside other (record { low = w; high = w })
    ti = let h = in_type other w f in record { low = h.from; high = h.to; full = omega (arith, ints) }

    in_each : (o : Option Range) → EachInside scalar o → InEach y o → InRange y (type_range scalar)
    in_each None i h = absurd h
    in_each (Some q) i h = record { from = omega (arith, ints, i.low, h.from); to = omega (arith, ints, i.high, h.to) }

-- a right side that may stand there is a number of the scalar, or of one of the widest scalars
word_scalar : (w : ℤ) → in_word w ≡ true → (in_scalar U64 w ≡ true) ⊎ (in_scalar I64 w ≡ true)
word_scalar w e = by (int_le (pos 0) w) refl
  where
    low : lowest ≤ℤ w
    low = let f : int_le lowest w ≡ true = (two (int_le lowest w) (int_le w highest) e).0 in le_is lowest w f
      where
        le_is : (a b : ℤ) → int_le a b ≡ true → a ≤ℤ b
        le_is a b h = grind (arith, ints)

    high : w ≤ℤ highest
    high = let f : int_le w highest ≡ true = (two (int_le lowest w) (int_le w highest) e).1 in le_is w highest f
      where
        le_is : (a b : ℤ) → int_le a b ≡ true → a ≤ℤ b
        le_is a b h = grind (arith, ints)

    by : (b : Bool) → int_le (pos 0) w ≡ b → (in_scalar U64 w ≡ true) ⊎ (in_scalar I64 w ≡ true)
    by true f = inl (let p : pos 0 ≤ℤ w = grind (arith, ints) in in_type_is U64 w (record { from = p; to = high }))
    by false f = inr (let p : w <ℤ pos 0 = grind (arith, ints) in in_type_is I64 w (record { from = low; to = omega (arith, ints) }))

stood : (mode : Mode) (op : Op) (scalar : Scalar) (z w y : ℤ) → in_scalar scalar z ≡ true → may_stand_right op scalar w ≡ true → op_of mode op scalar z w ≡ okay y → InRange y (type_range scalar)
stood mode Add scalar z w y e f h = op_in mode Add scalar scalar z w y refl e f h
stood mode Sub scalar z w y e f h = op_in mode Sub scalar scalar z w y refl e f h
stood mode Mul scalar z w y e f h = op_in mode Mul scalar scalar z w y refl e f h
stood mode Div scalar z w y e f h = op_in mode Div scalar scalar z w y refl e f h
stood mode Rem scalar z w y e f h = op_in mode Rem scalar scalar z w y refl e f h
stood mode And scalar z w y e f h = op_in mode And scalar scalar z w y refl e f h
stood mode Or scalar z w y e f h = op_in mode Or scalar scalar z w y refl e f h
stood mode Xor scalar z w y e f h = op_in mode Xor scalar scalar z w y refl e f h
stood mode Shl scalar z w y e f h = elim (word_scalar w f) [ inl g ↦ op_in mode Shl scalar U64 z w y refl e g h | inr g ↦ op_in mode Shl scalar I64 z w y refl e g h ]
stood mode Shr scalar z w y e f h = elim (word_scalar w f) [ inl g ↦ op_in mode Shr scalar U64 z w y refl e g h | inr g ↦ op_in mode Shr scalar I64 z w y refl e g h ]

-- ---- integers
module _ (most : ℕ) (ts : List ℤ) (law : IsLawful ts) (mode : Mode) (op : Op) (scalar other : Scalar) (p : is_pointer scalar ≡ false) (q : is_pointer other ≡ false) (s : IsRight op scalar other) where
  under_bits : (a b : Bits) → bits_under mode op scalar other a b ≡ op_bits mode op scalar other a b
  under_bits a b = rw p refl

  under_range : (r t : Range) → range_under mode op scalar ts r t ≡ rounded_each ts (op_range mode op scalar r t)
  under_range r t = rw p refl

  pub int_holds : (a b : AbsVal) (v w x : Value) → ProperOf most ts scalar a → ProperOf most ts other b → is_of scalar v ≡ true → is_of other w ≡ true → Holds v a → Holds w b → arith_of mode scalar v op w ≡ fine x → Holds x (assembled (pairs_vals most (op_constant mode op scalar) a.vals b.vals) (Some (bits_under mode op scalar other a.bits b.bits)) (range_under mode op scalar ts a.range b.range))
  int_holds a b v w x f g e k h m n =
      let z = number_value scalar v p e in
      let u = number_value other w q k in
      let h2 : Holds (Number z.0) a = subst (λ y. Holds y a) z.1 h in
      let m2 : Holds (Number u.0) b = subst (λ y. Holds y b) u.1 m in
      let n2 : arith_of mode scalar (Number z.0) op (Number u.0) ≡ fine x = subst (λ y. arith_of mode scalar y op (Number u.0) ≡ fine x) z.1 (subst (λ y. arith_of mode scalar v op y ≡ fine x) u.1 n) in
      let r = arith_number mode op scalar other z.0 u.0 x p s z.2 u.2 n2 in
      let done : Holds (Number r.0) (assembled (pairs_vals most (op_constant mode op scalar) a.vals b.vals) (Some (bits_under mode op scalar other a.bits b.bits)) (range_under mode op scalar ts a.range b.range)) =
      assembled_holds (Number r.0) _ _ _
      (pairs_hold most (op_constant mode op scalar) a.vals b.vals (Int z.0) (Int u.0) (Int r.0) h2.vals m2.vals (constant_result mode op scalar other z.0 u.0 r.0 p s z.2 u.2 r.1))
      (subst (λ (y : Bits). Agrees (pattern r.0) y) (sym (under_bits a.bits b.bits)) (op_bits_hold mode op scalar other z.0 u.0 r.0 a.bits b.bits s f.bits g.bits (in_type scalar z.0 z.2) (in_type other u.0 u.2) h2.bits m2.bits r.1))
      (subst (InEach r.0) (sym (under_range a.range b.range)) (round_each_holds ts law scalar (op_range mode op scalar a.range b.range) r.0 (op_range_inside mode op scalar other a.range b.range s f.inside g.inside) (op_range_holds mode op scalar other z.0 u.0 r.0 a.range b.range s f.inside g.inside h2.range m2.range r.1)))
      in subst (λ y. Holds y (assembled (pairs_vals most (op_constant mode op scalar) a.vals b.vals) (Some (bits_under mode op scalar other a.bits b.bits)) (range_under mode op scalar ts a.range b.range))) (sym r.2) done

  -- the result of numbers that may stand there is a number of the scalar
  result_in : (z w y : ℤ) → in_scalar scalar z ≡ true → may_stand_right op scalar w ≡ true → op_of mode op scalar z w ≡ okay y → InRange y (type_range scalar)
  result_in z w y e f h = stood mode op scalar z w y e f h

  op_constant_in : (c d e : Constant) → op_constant mode op scalar c d ≡ Some e → constant_in scalar e ≡ true
  op_constant_in c d e h = from c d (subst (λ (b : Bool). cond b (moved_constant c d) (number_constants mode op scalar c d) ≡ Some e) p h)
    where
      numbers : (z w : ℤ) (b : Bool) → (in_scalar scalar z && may_stand_right op scalar w) ≡ b → cond b (number_result (op_of mode op scalar z w)) None ≡ Some e → constant_in scalar e ≡ true
      numbers z w true f k = at (op_of mode op scalar z w) refl k
        where
          at : (r : Result ℤ TrapKind) → op_of mode op scalar z w ≡ r → number_result r ≡ Some e → constant_in scalar e ≡ true
          at (Ok y) g m = let i : Int y ≡ e = cc in subst (λ c. constant_in scalar c ≡ true) i (rw p (in_type_is scalar y (result_in z w y (two _ _ f).0 (two _ _ f).1 g)))
          at (Err kind) g m = cc
      numbers z w false f k = cc

      from : (c d : Constant) → number_constants mode op scalar c d ≡ Some e → constant_in scalar e ≡ true
      from (Int z) (Int w) k = numbers z w (in_scalar scalar z && may_stand_right op scalar w) refl k
      from (Int z) Null k = cc
      from (Int z) (Global n o) k = cc
      from Null d k = cc
      from (Global n o) d k = cc

  full_each : (o : Option Range) → EachInside scalar o → IsFullOption (rounded_each ts o)
  full_each None i = tt
  full_each (Some r) i = (round_inside ts law scalar r i).full

  pub int_good : (a b : AbsVal) → ProperOf most ts scalar a → ProperOf most ts other b → IsGood most ts scalar (assembled (pairs_vals most (op_constant mode op scalar) a.vals b.vals) (Some (bits_under mode op scalar other a.bits b.bits)) (range_under mode op scalar ts a.range b.range))
  int_good a b f g =
      let bits = subst (BitsOf scalar) (sym (under_bits a.bits b.bits)) (op_bits_of mode op scalar other a.bits b.bits s f.bits g.bits) in
      assembled_good most ts scalar _ _ _ (record {
        vals = pairs_fit most (op_constant mode op scalar) a.vals b.vals;
        kind = pairs_of scalar most (op_constant mode op scalar) a.vals b.vals op_constant_in;
        within = bits.within;
        mask = subst (λ (n : ℕ). (bits_under mode op scalar other a.bits b.bits).mask < 2 ^ n) (sym (width_is scalar p)) bits.short;
        range = λ r e. rounded_good (op_range mode op scalar a.range b.range) (op_range_inside mode op scalar other a.range b.range s f.inside g.inside) r (sym (under_range a.range b.range) ∙ e);
      })
    where
      rounded_good : (o : Option Range) → EachInside scalar o → (r : Range) → rounded_each ts o ≡ Some r → FitsRange ts r × Within r (span_of scalar)
      rounded_good None i r e = cc
      rounded_good (Some t) i r e =
          let same : rounded ts t ≡ r = cc in
          let n = round_inside ts law scalar t i in
          (subst (FitsRange ts) same (round_fits ts law scalar t i), subst (λ x. Within x (span_of scalar)) same (subst (λ x. Within (rounded ts t) x) (sym (span_is scalar p)) (record { low = n.low; high = n.high })))

  pub int_rises : (a b c d : AbsVal) → ProperOf most ts scalar a → ProperOf most ts other b → ProperOf most ts scalar c → ProperOf most ts other d → PartsBelow a c → PartsBelow b d
      → abs_val_below (assembled (pairs_vals most (op_constant mode op scalar) a.vals b.vals) (Some (bits_under mode op scalar other a.bits b.bits)) (range_under mode op scalar ts a.range b.range)) (assembled (pairs_vals most (op_constant mode op scalar) c.vals d.vals) (Some (bits_under mode op scalar other c.bits d.bits)) (range_under mode op scalar ts c.range d.range)) ≡ true
  int_rises a b c d f g i j h k =
      assembled_rises _ _ _ _ _ _
      (pairs_rise most (op_constant mode op scalar) a.vals b.vals c.vals d.vals f.vals g.vals i.vals j.vals h.vals k.vals)
      (subst (λ x. AreBelow x (bits_under mode op scalar other c.bits d.bits)) (sym (under_bits a.bits b.bits)) (subst (AreBelow (op_bits mode op scalar other a.bits b.bits)) (sym (under_bits c.bits d.bits)) (op_bits_monotone mode op scalar other a.bits b.bits c.bits d.bits s f.bits g.bits i.bits j.bits h.bits k.bits)))
      (subst (λ x. WithinEach x (range_under mode op scalar ts c.range d.range)) (sym (under_range a.range b.range)) (subst (WithinEach (rounded_each ts (op_range mode op scalar a.range b.range))) (sym (under_range c.range d.range)) (rounded_monotone ts (op_range mode op scalar a.range b.range) (op_range mode op scalar c.range d.range) (op_range_monotone mode op scalar other a.range b.range c.range d.range s f.inside g.inside i.inside j.inside h.range k.range))))
      (subst IsFullOption (sym (under_range a.range b.range)) (full_each (op_range mode op scalar a.range b.range) (op_range_inside mode op scalar other a.range b.range s f.inside g.inside)))
      (subst IsFullOption (sym (under_range c.range d.range)) (full_each (op_range mode op scalar c.range d.range) (op_range_inside mode op scalar other c.range d.range s i.inside j.inside)))
