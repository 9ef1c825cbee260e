-- Whether values fit, as a test: a fact that a value of a type may carry.
use Rattle.std.specs.Prelude.{◌≡◌, ℕ, ◌==◌, ◌^◌, ◌<◌, nat_le, nat_lt, ℤ, pos, int_le, Bool, true, false, ◌&&◌, cond, if◌then◌else◌, bit_and, List, [], ◌∷◌, length, refl}
use Rattle.std.proofs.Common.{inl, inr, ap, arith}
use Rattle.std.proofs.lemmas.Int.{ints}
use Rattle.std.proofs.lemmas.Bool.{eqb-true, eq-eqb, leb-true, le-leb, ltb-true, lt-ltb}
use Rattle.gimple_ir.specs.declared.value.Constant.{Constant}
use Rattle.fix_engine.specs.Bools.{and_left, and_right, both}
use Rattle.fix_engine.specs.Rows.{Each}
use Rattle.fix_engine.specs.declared.lifted.Lifted.{Lifted}
use Rattle.fix_engine.specs.declared.lifted.Lifted.TheVariants.{NotReached, Reached}
use Rattle.lattice_parts.specs.Sets.{Above, Ascending, has_by}
use Rattle.lattice_parts.specs.SetLemmas.{has_is, is_has}
use Rattle.value_domain.specs.declared.bits.Bits.{Bits}
use Rattle.value_domain.specs.declared.range.Range.{Range}
use Rattle.value_domain.specs.declared.vals.Vals.{Vals}
use Rattle.value_domain.specs.declared.vals.Vals.TheVariants.{Any, Nothing, Among}
use Rattle.value_domain.specs.declared.abs_val.AbsVal.{AbsVal}
use Rattle.value_domain.specs.Constants.{before}
use Rattle.value_domain.specs.OrderLemmas.{int_order}
use Rattle.std.specs.Prelude.{int_lt}
use Rattle.value_domain.specs.Bitmasks.{FitsBits}
use Rattle.value_domain.specs.Ranges.{FitsRange, is_bare}
use Rattle.value_domain.specs.FitLemmas.{le_tells}
use Rattle.value_domain.specs.Values.{FitsVals, FitsWith, parts_of, none_val}
use Rattle.body_values.specs.Rows.{LiftedFits}

-- ---- the parts

abbrev pub above_by : Constant → List Constant → Bool
above_by c [] = true
above_by c (x ∷ xs) = before c x && above_by c xs

abbrev pub ascending_by : List Constant → Bool
ascending_by [] = true
ascending_by (x ∷ xs) = above_by x xs && ascending_by xs

abbrev pub some_by : List Constant → Bool
some_by [] = false
some_by (c ∷ cs) = true

abbrev pub vals_by : ℕ → Vals → Bool
vals_by most Any = true
vals_by most Nothing = false
vals_by most (Among limit cs) = (limit == most) && (ascending_by cs && (nat_le (length cs) most && some_by cs))

abbrev pub bits_by : Bits → Bool
bits_by b = (bit_and b.value b.mask == b.value) && nat_lt b.mask (2 ^ 64)

abbrev pub range_by : List ℤ → Range → Bool
range_by ts r = has_by int_lt r.low ts && (has_by int_lt r.high ts && int_le r.low r.high)

abbrev pub same_int : ℤ → ℤ → Bool
same_int z w = int_le z w && int_le w z

abbrev pub is_nothing : Vals → Bool
is_nothing Nothing = true
is_nothing v = false

abbrev pub none_by : AbsVal → Bool
none_by a = is_nothing a.vals && ((a.bits.mask == 0) && ((a.bits.value == 0) && (same_int a.range.low (pos 1) && same_int a.range.high (pos 0))))

abbrev pub proper_by : ℕ → List ℤ → AbsVal → Bool
proper_by most ts a = vals_by most a.vals && (bits_by a.bits && range_by ts a.range)

abbrev pub fits_by : ℕ → List ℤ → AbsVal → Bool
fits_by most ts a = if is_bare a.range then none_by a else proper_by most ts a

abbrev pub each_by : ℕ → List ℤ → List AbsVal → Bool
each_by most ts [] = true
each_by most ts (a ∷ row) = fits_by most ts a && each_by most ts row

abbrev pub file_by : ℕ → List ℤ → ℕ → Lifted (List AbsVal) → Bool
file_by most ts n NotReached = true
file_by most ts n (Reached row) = (length row == n) && each_by most ts row

-- ---- what passes fits

above_is : (c : Constant) (xs : List Constant) → above_by c xs ≡ true → Above before c xs
above_is c [] h = tt
above_is c (x ∷ xs) h = (and_left (before c x) (above_by c xs) h, above_is c xs (and_right (before c x) (above_by c xs) h))

ascending_is : (xs : List Constant) → ascending_by xs ≡ true → Ascending before xs
ascending_is [] h = tt
ascending_is (x ∷ xs) h = (above_is x xs (and_left (above_by x xs) (ascending_by xs) h), ascending_is xs (and_right (above_by x xs) (ascending_by xs) h))

some_is : (xs : List Constant) → some_by xs ≡ true → 0 < length xs
some_is [] h = cc
some_is (x ∷ xs) h = omega arith

vals_are : (most : ℕ) (v : Vals) → vals_by most v ≡ true → FitsVals most v
vals_are most Any h = tt
vals_are most Nothing h = cc
vals_are most (Among limit cs) h =
    let r = and_right (limit == most) (ascending_by cs && (nat_le (length cs) most && some_by cs)) h in
    let q = and_right (ascending_by cs) (nat_le (length cs) most && some_by cs) r in
    record {
      same = eqb-true limit most (and_left (limit == most) (ascending_by cs && (nat_le (length cs) most && some_by cs)) h);
      rising = ascending_is cs (and_left (ascending_by cs) (nat_le (length cs) most && some_by cs) r);
      few = leb-true (length cs) most (and_left (nat_le (length cs) most) (some_by cs) q);
      some = some_is cs (and_right (nat_le (length cs) most) (some_by cs) q);
    }

bits_are : (b : Bits) → bits_by b ≡ true → FitsBits b
bits_are b h = record {
  within = eqb-true (bit_and b.value b.mask) b.value (and_left (bit_and b.value b.mask == b.value) (nat_lt b.mask (2 ^ 64)) h);
  short = ltb-true b.mask (2 ^ 64) (and_right (bit_and b.value b.mask == b.value) (nat_lt b.mask (2 ^ 64)) h);
}

range_is : (ts : List ℤ) (r : Range) → range_by ts r ≡ true → FitsRange ts r
range_is ts r h =
    let q = and_right (has_by int_lt r.low ts) (has_by int_lt r.high ts && int_le r.low r.high) h in
    record {
      low = has_is int_lt int_order r.low ts (and_left (has_by int_lt r.low ts) (has_by int_lt r.high ts && int_le r.low r.high) h);
      high = has_is int_lt int_order r.high ts (and_left (has_by int_lt r.high ts) (int_le r.low r.high) q);
      full = (le_tells r.low r.high).is_so (and_right (has_by int_lt r.high ts) (int_le r.low r.high) q);
    }

same_is : (z w : ℤ) → same_int z w ≡ true → z ≡ w
same_is z w h =
    let a = (le_tells z w).is_so (and_left (int_le z w) (int_le w z) h) in
    let b = (le_tells w z).is_so (and_right (int_le z w) (int_le w z) h) in
    omega (arith, ints, a, b)

nothing_is : (v : Vals) → is_nothing v ≡ true → v ≡ Nothing
nothing_is Any h = cc
nothing_is Nothing h = refl
nothing_is (Among limit cs) h = cc

none_is : (a : AbsVal) → none_by a ≡ true → parts_of a ≡ parts_of none_val
none_is a h =
    let t1 = and_right (is_nothing a.vals) _ h in
    let t2 = and_right (a.bits.mask == 0) _ t1 in
    let t3 = and_right (a.bits.value == 0) _ t2 in
    let v = nothing_is a.vals (and_left (is_nothing a.vals) _ h) in
    let m = eqb-true a.bits.mask 0 (and_left (a.bits.mask == 0) _ t1) in
    let n = eqb-true a.bits.value 0 (and_left (a.bits.value == 0) _ t2) in
    let l = same_is a.range.low (pos 1) (and_left (same_int a.range.low (pos 1)) (same_int a.range.high (pos 0)) t3) in
    let u = same_is a.range.high (pos 0) (and_right (same_int a.range.low (pos 1)) (same_int a.range.high (pos 0)) t3) in
    λ i. record { first = v i; second = record { mask = m i; value = n i }; third = record { low = l i; high = u i } }

pub fits_is : (most : ℕ) (ts : List ℤ) (a : AbsVal) → fits_by most ts a ≡ true → FitsWith most ts a
fits_is most ts a h = by (is_bare a.range) refl h
  where
    by : (b : Bool) → is_bare a.range ≡ b → cond b (none_by a) (proper_by most ts a) ≡ true → FitsWith most ts a
    by true e g = inl (record { is = none_is a g; bare = e })
    by false e g =
        let q = and_right (vals_by most a.vals) (bits_by a.bits && range_by ts a.range) g in
        inr (record {
          first = vals_are most a.vals (and_left (vals_by most a.vals) (bits_by a.bits && range_by ts a.range) g);
          second = bits_are a.bits (and_left (bits_by a.bits) (range_by ts a.range) q);
          third = range_is ts a.range (and_right (bits_by a.bits) (range_by ts a.range) q);
          full = e;
        })

each_is : (most : ℕ) (ts : List ℤ) (row : List AbsVal) → each_by most ts row ≡ true → Each (FitsWith most ts) row
each_is most ts [] h = tt
each_is most ts (a ∷ row) h = (fits_is most ts a (and_left (fits_by most ts a) (each_by most ts row) h), each_is most ts row (and_right (fits_by most ts a) (each_by most ts row) h))

pub file_is : (most : ℕ) (ts : List ℤ) (n : ℕ) (x : Lifted (List AbsVal)) → file_by most ts n x ≡ true → LiftedFits most ts n x
file_is most ts n NotReached h = tt
file_is most ts n (Reached row) h = record { count = eqb-true (length row) n (and_left (length row == n) (each_by most ts row) h); each = each_is most ts row (and_right (length row == n) (each_by most ts row) h) }

-- ---- what fits passes

is_above : (c : Constant) (xs : List Constant) → Above before c xs → above_by c xs ≡ true
is_above c [] h = refl
is_above c (x ∷ xs) h = both (before c x) (above_by c xs) h.0 (is_above c xs h.1)

is_ascending : (xs : List Constant) → Ascending before xs → ascending_by xs ≡ true
is_ascending [] h = refl
is_ascending (x ∷ xs) h = both (above_by x xs) (ascending_by xs) (is_above x xs h.0) (is_ascending xs h.1)

is_some_of : (xs : List Constant) → 0 < length xs → some_by xs ≡ true
is_some_of [] h = absurd (omega (arith, h))
is_some_of (x ∷ xs) h = refl

are_vals : (most : ℕ) (v : Vals) → FitsVals most v → vals_by most v ≡ true
are_vals most Any h = refl
are_vals most Nothing h = absurd h
are_vals most (Among limit cs) h =
    both (limit == most) _ (eq-eqb limit most h.same) (both (ascending_by cs) _ (is_ascending cs h.rising) (both (nat_le (length cs) most) (some_by cs) (le-leb (length cs) most h.few) (is_some_of cs h.some)))

are_bits : (b : Bits) → FitsBits b → bits_by b ≡ true
are_bits b h = both (bit_and b.value b.mask == b.value) (nat_lt b.mask (2 ^ 64)) (eq-eqb _ _ h.within) (lt-ltb b.mask (2 ^ 64) h.short)

is_range : (ts : List ℤ) (r : Range) → FitsRange ts r → range_by ts r ≡ true
is_range ts r h =
    both (has_by int_lt r.low ts) _ (is_has int_lt int_order r.low ts h.low) (both (has_by int_lt r.high ts) (int_le r.low r.high) (is_has int_lt int_order r.high ts h.high) ((le_tells r.low r.high).so_is h.full))

pub is_fitting : (most : ℕ) (ts : List ℤ) (a : AbsVal) → FitsWith most ts a → fits_by most ts a ≡ true
is_fitting most ts a (inl n) = ap (λ p. if is_bare p.third then none_by (record { vals = p.first; bits = p.second; range = p.third }) else proper_by most ts (record { vals = p.first; bits = p.second; range = p.third })) n.is
is_fitting most ts a (inr p) = rw (p.full) (both (vals_by most a.vals) _ (are_vals most a.vals p.first) (both (bits_by a.bits) (range_by ts a.range) (are_bits a.bits p.second) (is_range ts a.range p.third)))

is_each : (most : ℕ) (ts : List ℤ) (row : List AbsVal) → Each (FitsWith most ts) row → each_by most ts row ≡ true
is_each most ts [] h = refl
is_each most ts (a ∷ row) h = both (fits_by most ts a) (each_by most ts row) (is_fitting most ts a h.0) (is_each most ts row h.1)

pub is_file : (most : ℕ) (ts : List ℤ) (n : ℕ) (x : Lifted (List AbsVal)) → LiftedFits most ts n x → file_by most ts n x ≡ true
is_file most ts n NotReached h = refl
is_file most ts n (Reached row) h = both (length row == n) (each_by most ts row) (eq-eqb (length row) n h.count) (is_each most ts row h.each)
