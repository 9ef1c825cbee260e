-- A value with known bits or its interval off fits as the value does, is of its scalar, rises with it, and holds what it holds.
use Rattle.std.proofs.Common.{◌≡◌, ℕ, ◌⊎◌, inl, inr, ℤ, ◌≤ℤ◌, int_le, Bool, true, false, ◌&&◌, if◌then◌else◌, List, refl, sym, ap, ◌∙◌, subst, arith}
use Rattle.std.proofs.lemmas.Int.{ints}
use Rattle.gimple_ir.specs.declared.scalar.Scalar.{Scalar}
use Rattle.gimple_ir.specs.declared.scalar.Scalar.TheVariants.{I8, I16, I32, I64, U8, U16, U32, U64, Ptr}
use Rattle.gimple_ir.specs.declared.value.Value.{Value}
use Rattle.gimple_core.specs.State.{is_of}
use Rattle.value_domain.specs.declared.abs_val.AbsVal.{AbsVal}
use Rattle.value_domain.specs.declared.range.Range.{Range}
use Rattle.value_domain.specs.declared.vals.Vals.TheVariants.{Any, Nothing}
use Rattle.value_domain.specs.AbsOperators.{span_of}
use Rattle.value_domain.specs.BitOperators.{unknown_bits}
use Rattle.value_domain.specs.Bitmasks.{FitsBits, bits_below, pattern}
use Rattle.value_domain.specs.Holding.{Holds, IsOf, number_part}
use Rattle.value_domain.specs.Ranges.{FitsRange, is_bare, range_below}
use Rattle.value_domain.specs.Thresholds.{IsLawful}
use Rattle.value_domain.specs.Values.{FitsWith, is_none_val, abs_val_below, vals_below}
use Rattle.value_domain.proofs.BitSoundness.{unknown_holds}
use Rattle.value_domain.proofs.TopLaws.{top_fits, top_holds}
use Rattle.cp_lattices.specs.Trimmed.{without_bits, without_range, bits_by, trimmed, TrimFits, TrimIsOf, TrimRises, TrimHolds}

-- ---- fits

other : Any ≡ Nothing → ⊥
other e = cc

module _ (most : ℕ) (ts : List ℤ) (law : IsLawful ts) (scalar : Scalar) where
  unknown_fit : FitsBits unknown_bits
  unknown_fit = record { within = refl; short = omega arith }

  span : FitsRange ts (span_of scalar) × (is_bare (span_of scalar) ≡ false)
  span = elim (top_fits most ts law scalar).0 [
    | inl none ↦ absurd (other (ap (λ p. p.first) none.is))
    | inr p ↦ (p.third, p.full)
  ]

  bits_at : (a : AbsVal) (b : Bool) → is_none_val a ≡ b → FitsWith most ts a → FitsWith most ts (if b then a else record a { bits = unknown_bits })
  bits_at a true e h = h
  bits_at a false e (inl none) = let bare : is_none_val a ≡ true = none.bare in cc
  bits_at a false e (inr p) = inr (record { first = p.first; second = unknown_fit; third = p.third; full = p.full })

  range_at : (a : AbsVal) (b : Bool) → is_none_val a ≡ b → FitsWith most ts a → FitsWith most ts (if b then a else record a { range = span_of scalar })
  range_at a true e h = h
  range_at a false e (inl none) = let bare : is_none_val a ≡ true = none.bare in cc
  range_at a false e (inr p) = inr (record { first = p.first; second = p.second; third = span.0; full = span.1 })

  by_bits : (b : Bool) (a : AbsVal) → FitsWith most ts a → FitsWith most ts (if b then a else without_bits a)
  by_bits true a h = h
  by_bits false a h = bits_at a (is_none_val a) refl h

  by_range : (b : Bool) (a : AbsVal) → FitsWith most ts a → FitsWith most ts (if b then a else without_range scalar a)
  by_range true a h = h
  by_range false a h = range_at a (is_none_val a) refl h

pub trim_fits : TrimFits
unfolding trimmed
trim_fits most ts law passes scalar a h = by_range most ts law scalar passes.vrp (bits_by passes a) (by_bits most ts law scalar passes.bit_cp a h)

-- ---- of the scalar

bits_of_at : (scalar : Scalar) (a : AbsVal) (b : Bool) → is_none_val a ≡ b → IsOf scalar a → IsOf scalar (if b then a else record a { bits = unknown_bits })
bits_of_at scalar a true e h = h
bits_of_at scalar a false e (inl none) = cc
bits_of_at scalar a false e (inr p) = inr (record { vals = p.vals; mask = let m = p.mask in omega (arith, m); range = p.range })

range_of_at : (scalar : Scalar) (a : AbsVal) (b : Bool) → is_none_val a ≡ b → IsOf scalar a → IsOf scalar (if b then a else record a { range = span_of scalar })
range_of_at scalar a true e h = h
range_of_at scalar a false e (inl none) = cc
range_of_at scalar a false e (inr p) = inr (record { vals = p.vals; mask = p.mask; range = record { low = omega (arith, ints); high = omega (arith, ints) } })

bits_of_by : (scalar : Scalar) (b : Bool) (a : AbsVal) → IsOf scalar a → IsOf scalar (if b then a else without_bits a)
bits_of_by scalar true a h = h
bits_of_by scalar false a h = bits_of_at scalar a (is_none_val a) refl h

range_of_by : (scalar : Scalar) (b : Bool) (a : AbsVal) → IsOf scalar a → IsOf scalar (if b then a else without_range scalar a)
range_of_by scalar true a h = h
range_of_by scalar false a h = range_of_at scalar a (is_none_val a) refl h

pub trim_is_of : TrimIsOf
unfolding trimmed
trim_is_of passes scalar a h = range_of_by scalar passes.vrp (bits_by passes a) (bits_of_by scalar passes.bit_cp a h)

-- ---- rises

three : (x y z : Bool) → (x && (y && z)) ≡ true → (x ≡ true) × ((y ≡ true) × (z ≡ true))
three true true true h = (refl, (refl, refl))
three true true false h = cc
three true false z h = cc
three false y z h = cc

together : (x y z : Bool) → x ≡ true → y ≡ true → z ≡ true → (x && (y && z)) ≡ true
together x y z e f g = rw (e, f, g) refl

self_le : (z : ℤ) → int_le z z ≡ true
self_le z = le z z (omega (arith, ints))
  where
    le : (a b : ℤ) → a ≤ℤ b → int_le a b ≡ true
    le a b h = grind (arith, ints)

pub self_below : (r : Range) → range_below r r ≡ true
self_below r = rw (self_le r.low, self_le r.high) refl

-- two values that are not none, by their parts
below_parts : (a c : AbsVal) → is_none_val a ≡ false → is_none_val c ≡ false → abs_val_below a c ≡ true → (vals_below a.vals c.vals ≡ true) × ((bits_below a.bits c.bits ≡ true) × (range_below a.range c.range ≡ true))
below_parts a c e f h = three _ _ _ (sym (ap (λ b. if b then true else (if is_bare c.range then false else (vals_below a.vals c.vals && (bits_below a.bits c.bits && range_below a.range c.range)))) e
    ∙ ap (λ b. if b then false else (vals_below a.vals c.vals && (bits_below a.bits c.bits && range_below a.range c.range))) f) ∙ h)

parts_at : (a c : AbsVal) (x y z : Bool) → vals_below a.vals c.vals ≡ x → bits_below a.bits c.bits ≡ y → range_below a.range c.range ≡ z → (b d : Bool) → is_none_val a ≡ b → is_none_val c ≡ d
    → abs_val_below a c ≡ (if b then true else (if d then false else (x && (y && z))))
parts_at a c x y z p q r b d e f = rw (e, f, p, q, r) refl

-- the first is none, or neither is
either : (a c : AbsVal) → abs_val_below a c ≡ true → (b d : Bool) → is_none_val a ≡ b → is_none_val c ≡ d → (is_none_val a ≡ true) ⊎ ((is_none_val a ≡ false) × (is_none_val c ≡ false))
either a c h true d e f = inl e
either a c h false true e f = let no : false ≡ true = sym (parts_at a c _ _ _ refl refl refl false true e f) ∙ h in cc
either a c h false false e f = inr (e, f)

none_below : (a c : AbsVal) → is_none_val a ≡ true → abs_val_below a c ≡ true
none_below a c e = rw e refl

full_below : (a c : AbsVal) → is_none_val a ≡ false → is_none_val c ≡ false → vals_below a.vals c.vals ≡ true → bits_below a.bits c.bits ≡ true → range_below a.range c.range ≡ true → abs_val_below a c ≡ true
full_below a c e f p q r = parts_at a c true true true p q r false false e f

none_bits : (a : AbsVal) → is_none_val a ≡ true → without_bits a ≡ a
none_bits a e = rw e refl

full_bits : (a : AbsVal) → is_none_val a ≡ false → without_bits a ≡ record a { bits = unknown_bits }
full_bits a e = rw e refl

none_range : (scalar : Scalar) (a : AbsVal) → is_none_val a ≡ true → without_range scalar a ≡ a
none_range scalar a e = rw e refl

full_range : (scalar : Scalar) (a : AbsVal) → is_none_val a ≡ false → without_range scalar a ≡ record a { range = span_of scalar }
full_range scalar a e = rw e refl

bits_rise : (a c : AbsVal) → abs_val_below a c ≡ true → abs_val_below (without_bits a) (without_bits c) ≡ true
bits_rise a c h = elim (either a c h (is_none_val a) (is_none_val c) refl refl) [
  | inl none ↦ subst (λ x. abs_val_below x (without_bits c) ≡ true) (sym (none_bits a none)) (none_below a (without_bits c) none)
  | inr full ↦
      let p = below_parts a c full.0 full.1 h in
      subst (λ x. abs_val_below x (without_bits c) ≡ true) (sym (full_bits a full.0)) (subst (λ y. abs_val_below (record a { bits = unknown_bits }) y ≡ true) (sym (full_bits c full.1))
      (full_below (record a { bits = unknown_bits }) (record c { bits = unknown_bits }) full.0 full.1 p.0 refl p.1.1))
]

span_full : (scalar : Scalar) → is_bare (span_of scalar) ≡ false
span_full I8 = refl
span_full I16 = refl
span_full I32 = refl
span_full I64 = refl
span_full U8 = refl
span_full U16 = refl
span_full U32 = refl
span_full U64 = refl
span_full Ptr = refl

range_rises : (scalar : Scalar) (a c : AbsVal) → abs_val_below a c ≡ true → abs_val_below (without_range scalar a) (without_range scalar c) ≡ true
range_rises scalar a c h = elim (either a c h (is_none_val a) (is_none_val c) refl refl) [
  | inl none ↦ subst (λ x. abs_val_below x (without_range scalar c) ≡ true) (sym (none_range scalar a none)) (none_below a (without_range scalar c) none)
  | inr full ↦
      let p = below_parts a c full.0 full.1 h in
      subst (λ x. abs_val_below x (without_range scalar c) ≡ true) (sym (full_range scalar a full.0)) (subst (λ y. abs_val_below (record a { range = span_of scalar }) y ≡ true) (sym (full_range scalar c full.1))
      (full_below (record a { range = span_of scalar }) (record c { range = span_of scalar }) (span_full scalar) (span_full scalar) p.0 p.1.0 (self_below (span_of scalar))))
]

bits_rise_by : (b : Bool) (a c : AbsVal) → abs_val_below a c ≡ true → abs_val_below (if b then a else without_bits a) (if b then c else without_bits c) ≡ true
bits_rise_by true a c h = h
bits_rise_by false a c h = bits_rise a c h

range_rises_by : (b : Bool) (scalar : Scalar) (a c : AbsVal) → abs_val_below a c ≡ true → abs_val_below (if b then a else without_range scalar a) (if b then c else without_range scalar c) ≡ true
range_rises_by true scalar a c h = h
range_rises_by false scalar a c h = range_rises scalar a c h

pub trim_rises : TrimRises
unfolding trimmed
trim_rises passes scalar a c h = range_rises_by passes.vrp scalar (bits_by passes a) (bits_by passes c) (bits_rise_by passes.bit_cp a c h)

-- ---- holds

bits_hold_at : (a : AbsVal) (v : Value) (b : Bool) → Holds v a → Holds v (if b then a else record a { bits = unknown_bits })
bits_hold_at a v true h = h
bits_hold_at a v false h = record { vals = h.vals; bits = unknown_holds (pattern (number_part v)); range = h.range }

range_holds_at : (scalar : Scalar) (a : AbsVal) (v : Value) → is_of scalar v ≡ true → (b : Bool) → Holds v a → Holds v (if b then a else record a { range = span_of scalar })
range_holds_at scalar a v is true h = h
range_holds_at scalar a v is false h = record { vals = h.vals; bits = h.bits; range = (top_holds scalar v is).range }

bits_hold_by : (b : Bool) (a : AbsVal) (v : Value) → Holds v a → Holds v (if b then a else without_bits a)
bits_hold_by true a v h = h
bits_hold_by false a v h = bits_hold_at a v (is_none_val a) h

range_holds_by : (b : Bool) (scalar : Scalar) (a : AbsVal) (v : Value) → is_of scalar v ≡ true → Holds v a → Holds v (if b then a else without_range scalar a)
range_holds_by true scalar a v is h = h
range_holds_by false scalar a v is h = range_holds_at scalar a v is (is_none_val a) h

pub trim_holds : TrimHolds
unfolding trimmed
trim_holds passes scalar a v is h = range_holds_by passes.vrp scalar (bits_by passes a) v is (bits_hold_by passes.bit_cp a v h)
