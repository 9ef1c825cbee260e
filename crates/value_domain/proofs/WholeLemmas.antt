-- Values made of parts: what they hold, their order, and that they fit.
use Rattle.std.proofs.Common.{cond, ◌≡◌, ℕ, ◌^◌, ◌<◌, ◌≤◌, ℤ, ◌≤ℤ◌, ◌⊎◌, inl, inr, Bool, true, false, ◌&&◌, refl, sym, ◌∙◌, subst, arith, int_lt, List, Option, Some, None}
use Rattle.std.proofs.lemmas.Int.{ints}
use Rattle.std.proofs.Math.Nat.{pow-le-pow_right}
use Rattle.gimple_ir.specs.declared.scalar.Scalar.{Scalar}
use Rattle.gimple_ir.specs.declared.value.Value.{Value}
use Rattle.gimple_ir.specs.declared.value.Value.TheVariants.{Int as Number, Null as NullPointer, At, Code}
use Rattle.gimple_core.specs.Operators.{in_scalar, bits_of}
use Rattle.gimple_core.specs.Statements.{is_pointer}
use Rattle.gimple_core.specs.State.{is_of}
use Rattle.value_domain.specs.declared.bits.Bits.{Bits}
use Rattle.value_domain.specs.declared.range.Range.{Range}
use Rattle.value_domain.specs.declared.vals.Vals.{Vals}
use Rattle.value_domain.specs.declared.vals.Vals.TheVariants.{Any, Nothing, Among}
use Rattle.value_domain.specs.declared.abs_val.AbsVal.{AbsVal}
use Rattle.value_domain.specs.Bitmasks.{pattern, Agrees, AreBelow, IsBits, bits_below}
use Rattle.value_domain.specs.BitsPart.{is_below, below_is}
use Rattle.value_domain.specs.Ranges.{InEach, Within, WithinEach, FitsRange, range_below, is_bare}
use Rattle.value_domain.specs.RangePart.{within_is, is_within}
use Rattle.value_domain.specs.RangeOperators.{type_range, IsInside}
use Rattle.value_domain.specs.AbsOperators.{assembled, unless_none, span_of}
use Rattle.value_domain.specs.Values.{none_val, is_none_val, FitsVals, FitsWith, vals_below, abs_val_below}
use Rattle.value_domain.specs.ValueLemmas.{abs_apart}
use Rattle.value_domain.specs.Holding.{Holds, IsAmong, constant_of, number_part, mask_width, ValsOf, IsOf}
use Rattle.value_domain.proofs.ScalarLemmas.{width_bound}
use Rattle.value_domain.proofs.ValuesOf.{of_number, of_null, of_address, of_function}
use Rattle.value_domain.proofs.AgreeLemmas.{BitsOf}
use Rattle.value_domain.proofs.ValsLaws.{MayFit, Rises}

-- ---- scalars
pub width_is : (scalar : Scalar) → is_pointer scalar ≡ false → mask_width scalar ≡ bits_of scalar
width_is scalar e = rw e refl

pub span_is : (scalar : Scalar) → is_pointer scalar ≡ false → span_of scalar ≡ type_range scalar
span_is scalar e = rw e refl

-- an integer scalar's values are numbers of it
pub number_value : (scalar : Scalar) (v : Value) → is_pointer scalar ≡ false → is_of scalar v ≡ true → (z : ℤ) × (v ≡ Number z) × (in_scalar scalar z ≡ true)
number_value scalar (Number z) e h = (z, refl, (of_number scalar z h).1)
number_value scalar NullPointer e h = absurd (let c : true ≡ false = sym (of_null scalar h) ∙ e in cc)
number_value scalar (At object offset) e h = absurd (let c : true ≡ false = sym (of_address scalar object offset h) ∙ e in cc)
number_value scalar (Code name) e h = absurd (let c : true ≡ false = sym (of_function scalar name h) ∙ e in cc)

-- ---- values that fit and are of an integer scalar
pub record ProperOf (most : ℕ) (ts : List ℤ) (scalar : Scalar) (a : AbsVal) : Type 0 where
  pub vals : FitsVals most a.vals
  pub kind : ValsOf scalar a.vals
  pub bits : BitsOf scalar a.bits
  pub inside : IsInside scalar a.range
  pub ends : FitsRange ts a.range
  pub full : is_none_val a ≡ false

full_is : (r : Range) → r.low ≤ℤ r.high → is_bare r ≡ false
full_is r h = not_less r.high r.low h
  where
    not_less : (a b : ℤ) → b ≤ℤ a → int_lt a b ≡ false
    not_less a b h = grind (arith, ints)

clash : (b : Bool) → b ≡ true → b ≡ false → ⊥
clash true e f = cc
clash false e f = cc

pub proper_of : (most : ℕ) (ts : List ℤ) (scalar : Scalar) (a : AbsVal) → FitsWith most ts a → IsOf scalar a → is_pointer scalar ≡ false → (a ≡ none_val) ⊎ ProperOf most ts scalar a
proper_of most ts scalar a (inl n) o e = inl (abs_apart a none_val n.is)
proper_of most ts scalar a (inr p) (inl n) e = absurd (clash (is_none_val a) n p.full)
proper_of most ts scalar a (inr p) (inr q) e = inr (record {
  vals = p.first;
  kind = q.vals;
  bits = record { within = p.second.within; short = subst (λ (n : ℕ). a.bits.mask < 2 ^ n) (width_is scalar e) q.mask };
  inside = let w : Within a.range (type_range scalar) = subst (λ (r : Range). Within a.range r) (span_is scalar e) q.range in record { low = w.low; high = w.high; full = p.third.full };
  ends = p.third;
  full = p.full;
})

-- none is none of a value's
pub none_holds : (v : Value) (a : AbsVal) → a ≡ none_val → Holds v a → ⊥
none_holds v a e h = let k : Holds v none_val = subst (Holds v) e h in k.vals

-- ---- put together
pub assembled_holds : (x : Value) (v : Vals) (b : Bits) (o : Option Range) → IsAmong (constant_of x) v → Agrees (pattern (number_part x)) b → InEach (number_part x) o → Holds x (assembled v (Some b) o)
assembled_holds x Nothing b o h k m = absurd h
assembled_holds x Any b None h k m = absurd m
assembled_holds x Any b (Some r) h k m = record { vals = h; bits = k; range = m }
assembled_holds x (Among limit cs) b None h k m = absurd m
assembled_holds x (Among limit cs) b (Some r) h k m = record { vals = h; bits = k; range = m }

pub unless_proper : (a b x : AbsVal) → is_none_val a ≡ false → is_none_val b ≡ false → unless_none a b x ≡ x
unless_proper a b x e f = rw (e, f) refl

-- the parts of a result: each may be empty, else it fits and is of the scalar
pub record GoodParts (most : ℕ) (ts : List ℤ) (scalar : Scalar) (v : Vals) (b : Bits) (o : Option Range) : Type 0 where
  pub vals : MayFit most v
  pub kind : ValsOf scalar v
  pub within : IsBits b
  pub mask : b.mask < 2 ^ mask_width scalar
  pub range : (r : Range) → o ≡ Some r → FitsRange ts r × Within r (span_of scalar)

abbrev pub IsGood : ℕ → List ℤ → Scalar → AbsVal → Type 0
IsGood most ts scalar a = FitsWith most ts a × IsOf scalar a

pub none_good : (most : ℕ) (ts : List ℤ) (scalar : Scalar) → IsGood most ts scalar none_val
none_good most ts scalar = (inl (record { is = refl; bare = refl }), inl refl)

small_mask : (scalar : Scalar) (n : ℕ) → n < 2 ^ mask_width scalar → n < 2 ^ 64
small_mask scalar n h = by (is_pointer scalar) h
  where
    by : (b : Bool) → n < 2 ^ cond b 0 (bits_of scalar) → n < 2 ^ 64
    by true k = omega arith
    by false k = let w = width_bound scalar in let p : 2 ^ bits_of scalar ≤ 2 ^ 64 = pow-le-pow_right {n = 2} (omega arith) w.1 in omega arith

proper_good : (most : ℕ) (ts : List ℤ) (scalar : Scalar) (v : Vals) (b : Bits) (r : Range) → FitsVals most v → GoodParts most ts scalar v b (Some r) → IsGood most ts scalar (record { vals = v; bits = b; range = r })
proper_good most ts scalar v b r f g = let k = g.range r refl in (
  inr (record { first = f; second = record { within = g.within; short = small_mask scalar b.mask g.mask }; third = k.0; full = full_is r k.0.full }),
  inr (record { vals = g.kind; mask = g.mask; range = k.1 }),
)

pub assembled_good : (most : ℕ) (ts : List ℤ) (scalar : Scalar) (v : Vals) (b : Bits) (o : Option Range) → GoodParts most ts scalar v b o → IsGood most ts scalar (assembled v (Some b) o)
assembled_good most ts scalar Nothing b o g = none_good most ts scalar
assembled_good most ts scalar Any b None g = none_good most ts scalar
assembled_good most ts scalar Any b (Some r) g = proper_good most ts scalar Any b r tt g
assembled_good most ts scalar (Among limit cs) b None g = none_good most ts scalar
assembled_good most ts scalar (Among limit cs) b (Some r) g = proper_good most ts scalar (Among limit cs) b r g.vals g

pub unless_good : (most : ℕ) (ts : List ℤ) (scalar : Scalar) (a b x : AbsVal) → (is_none_val a ≡ false → is_none_val b ≡ false → IsGood most ts scalar x) → IsGood most ts scalar (unless_none a b x)
unless_good most ts scalar a b x h = by (is_none_val a) (is_none_val b) refl refl
  where
    by : (p q : Bool) → is_none_val a ≡ p → is_none_val b ≡ q → IsGood most ts scalar (cond p none_val (cond q none_val x))
    by true q e f = none_good most ts scalar
    by false true e f = none_good most ts scalar
    by false false e f = h e f

-- ---- order
three : (a b c : Bool) → (a && (b && c)) ≡ true → (a ≡ true) × (b ≡ true) × (c ≡ true)
three true true true h = (refl, refl, refl)
three true true false h = cc
three true false c h = cc
three false b c h = cc

three_true : (a b c : Bool) → a ≡ true → b ≡ true → c ≡ true → (a && (b && c)) ≡ true
three_true a b c h k m = cc

pub record PartsBelow (a c : AbsVal) : Type 0 where
  pub vals : vals_below a.vals c.vals ≡ true
  pub bits : AreBelow a.bits c.bits
  pub range : Within a.range c.range

pub parts_below_is : (a c : AbsVal) → is_none_val a ≡ false → abs_val_below a c ≡ true → (is_none_val c ≡ false) × PartsBelow a c
parts_below_is a c e h = by (is_none_val a) (is_none_val c) e refl h
  where
    by : (p q : Bool) → p ≡ false → is_none_val c ≡ q → cond p true (cond q false (vals_below a.vals c.vals && (bits_below a.bits c.bits && range_below a.range c.range))) ≡ true → (is_none_val c ≡ false) × PartsBelow a c
    by true q e f k = cc
    by false true e f k = cc
    by false false e f k = let t = three _ _ _ k in (f, record { vals = t.0; bits = below_is a.bits c.bits t.1; range = within_is a.range c.range t.2 })

pub none_below : (a c : AbsVal) → is_none_val a ≡ true → abs_val_below a c ≡ true
none_below a c e = rw e refl

pub below_parts : (a c : AbsVal) → is_none_val a ≡ false → is_none_val c ≡ false → PartsBelow a c → abs_val_below a c ≡ true
below_parts a c e f p = rw (e, f) (three_true _ _ _ p.vals (is_below a.bits c.bits p.bits) (is_within a.range c.range p.range))

abbrev pub IsFullOption : Option Range → Type 0
IsFullOption None = Unit {0}
IsFullOption (Some r) = r.low ≤ℤ r.high

none_val_below : (c : AbsVal) → abs_val_below none_val c ≡ true
none_val_below c = refl

some_nothing : (v : Vals) (limit : ℕ) (cs : List _) → v ≡ Among limit cs → v ≡ Nothing → ⊥
some_nothing v limit cs e f = cc

pub assembled_rises : (v w : Vals) (b c : Bits) (o p : Option Range) → Rises v w → AreBelow b c → WithinEach o p → IsFullOption o → IsFullOption p → abs_val_below (assembled v (Some b) o) (assembled w (Some c) p) ≡ true
assembled_rises Nothing w b c o p h k m f g = refl
assembled_rises Any w b c None p h k m f g = refl
assembled_rises (Among l cs) w b c None p h k m f g = refl
assembled_rises Any Nothing b c (Some r) p h k m f g = absurd (let e = h.empty refl in cc)
assembled_rises (Among l cs) Nothing b c (Some r) p h k m f g = absurd (let e = h.empty refl in cc)
assembled_rises Any Any b c (Some r) None h k m f g = absurd m
assembled_rises Any (Among n ds) b c (Some r) None h k m f g = absurd m
assembled_rises (Among l cs) Any b c (Some r) None h k m f g = absurd m
assembled_rises (Among l cs) (Among n ds) b c (Some r) None h k m f g = absurd m
assembled_rises Any Any b c (Some r) (Some s) h k m f g = below_parts (record { vals = Any; bits = b; range = r }) (record { vals = Any; bits = c; range = s }) (full_is r f) (full_is s g) (record { vals = h.below; bits = k; range = m })
assembled_rises Any (Among n ds) b c (Some r) (Some s) h k m f g = below_parts (record { vals = Any; bits = b; range = r }) (record { vals = Among n ds; bits = c; range = s }) (full_is r f) (full_is s g) (record { vals = h.below; bits = k; range = m })
assembled_rises (Among l cs) Any b c (Some r) (Some s) h k m f g = below_parts (record { vals = Among l cs; bits = b; range = r }) (record { vals = Any; bits = c; range = s }) (full_is r f) (full_is s g) (record { vals = h.below; bits = k; range = m })
assembled_rises (Among l cs) (Among n ds) b c (Some r) (Some s) h k m f g = below_parts (record { vals = Among l cs; bits = b; range = r }) (record { vals = Among n ds; bits = c; range = s }) (full_is r f) (full_is s g) (record { vals = h.below; bits = k; range = m })

-- with none on a side first
pub unless_rises : (a b c d x y : AbsVal) → abs_val_below a c ≡ true → abs_val_below b d ≡ true → (is_none_val a ≡ false → is_none_val b ≡ false → is_none_val c ≡ false → is_none_val d ≡ false → PartsBelow a c → PartsBelow b d → abs_val_below x y ≡ true) → abs_val_below (unless_none a b x) (unless_none c d y) ≡ true
unless_rises a b c d x y h k each = by (is_none_val a) (is_none_val b) refl refl
  where
    by : (p q : Bool) → is_none_val a ≡ p → is_none_val b ≡ q → abs_val_below (cond p none_val (cond q none_val x)) (unless_none c d y) ≡ true
    by true q e f = none_val_below (unless_none c d y)
    by false true e f = none_val_below (unless_none c d y)
    by false false e f =
        let u = parts_below_is a c e h in
        let w = parts_below_is b d f k in
        subst (λ z. abs_val_below x z ≡ true) (sym (unless_proper c d y u.0 w.0)) (each e f u.0 w.0 u.1 w.1)
