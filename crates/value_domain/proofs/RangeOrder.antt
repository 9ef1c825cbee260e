-- The intervals of `% & | ^ << >>`, of comparisons and of conversions are monotone, and lie in the scalar.
use Rattle.std.proofs.Common.{cond, ◌≡◌, ◌^◌, ◌-◌, ℤ, pos, ◌-ℤ◌, ◌≤ℤ◌, ◌<ℤ◌, ◌⊎◌, inl, inr, Bool, true, false, ◌||◌, refl, sym, ◌∙◌, subst, int_le, arith, unsigned_abs, Some, None}
use Rattle.std.specs.Int.{int_min, int_max}
use Rattle.std.proofs.lemmas.Int.{ints, clamps}
use Rattle.gimple_ir.specs.declared.scalar.Scalar.{Scalar}
use Rattle.gimple_ir.specs.declared.scalar.Cmp.{Cmp}
use Rattle.gimple_ir.specs.declared.scalar.Cmp.TheVariants.{Eq, Ne, Lt, Le, Gt, Ge}
use Rattle.gimple_core.specs.Operators.{least_of, greatest_of, cmp_of}
use Rattle.value_domain.specs.declared.range.Range.{Range}
use Rattle.value_domain.specs.Ranges.{InRange, Within, WithinEach}
use Rattle.value_domain.specs.RangeOperators.{IsInside, type_range, remainder_within, reach_of, remainder_range, and_range, ones_reaching, or_range, shr_range, surely, opposite, cmp_range, convert_range}
use Rattle.value_domain.specs.FitLemmas.{le_tells, unless_cases, whole_monotone}
use Rattle.value_domain.proofs.ScalarLemmas.{two, both, type_zero, type_word}
use Rattle.value_domain.proofs.RoundingLemmas.{by_order}
use Rattle.value_domain.proofs.FitSoundness.{EachInside, type_inside}
use Rattle.value_domain.proofs.RangeSoundness.{by_range, by_reach, by_both, ones_reach, ones_least, ones_inside, size_within, lt_is, is_lt, surely_holds, opposite_is}

-- ---- `%`
size_rises : (s s2 : Range) → s.low ≤ℤ s.high → Within s s2 → reach_of s ≤ℤ reach_of s2
size_rises s s2 f w =
    let p : pos (unsigned_abs s.low) ≤ℤ reach_of s2 = size_within s2 s.low (record { from = w.low; to = omega (arith, ints, w.high) }) in
    let q : pos (unsigned_abs s.high) ≤ℤ reach_of s2 = size_within s2 s.high (record { from = omega (arith, ints, w.low); to = w.high }) in
    both_under (pos (unsigned_abs s.low)) (pos (unsigned_abs s.high)) (reach_of s2) p q
  where
    both_under : (a b m : ℤ) → a ≤ℤ m → b ≤ℤ m → int_max a b ≤ℤ m
    both_under a b m h k = omega (arith, ints, clamps)

low_falls : (m n a b : ℤ) → m ≤ℤ n → pos 0 <ℤ m → b ≤ℤ a → cond (int_le (pos 0) b) (pos 0) (int_max b (pos 1 -ℤ n)) ≤ℤ cond (int_le (pos 0) a) (pos 0) (int_max a (pos 1 -ℤ m))
low_falls m n a b h p k = by_order (pos 0) a (pos 0) (int_max a (pos 1 -ℤ m)) (λ (x : ℤ). cond (int_le (pos 0) b) (pos 0) (int_max b (pos 1 -ℤ n)) ≤ℤ x)
    (λ i. by_order (pos 0) b (pos 0) (int_max b (pos 1 -ℤ n)) (λ (y : ℤ). y ≤ℤ pos 0) (λ _. omega (arith, ints)) (λ j. omega (arith, ints, clamps)))
    (λ i. by_order (pos 0) b (pos 0) (int_max b (pos 1 -ℤ n)) (λ (y : ℤ). y ≤ℤ int_max a (pos 1 -ℤ m)) (λ j. absurd (omega (arith, ints))) (λ j. omega (arith, ints, clamps)))

high_rises : (m n a b : ℤ) → m ≤ℤ n → pos 0 <ℤ m → a ≤ℤ b → cond (int_le a (pos 0)) (pos 0) (int_min a (m -ℤ pos 1)) ≤ℤ cond (int_le b (pos 0)) (pos 0) (int_min b (n -ℤ pos 1))
high_rises m n a b h p k = by_order a (pos 0) (pos 0) (int_min a (m -ℤ pos 1)) (λ (x : ℤ). x ≤ℤ cond (int_le b (pos 0)) (pos 0) (int_min b (n -ℤ pos 1)))
    (λ i. by_order b (pos 0) (pos 0) (int_min b (n -ℤ pos 1)) (λ (y : ℤ). pos 0 ≤ℤ y) (λ _. omega (arith, ints)) (λ j. omega (arith, ints, clamps)))
    (λ i. by_order b (pos 0) (pos 0) (int_min b (n -ℤ pos 1)) (λ (y : ℤ). int_min a (m -ℤ pos 1) ≤ℤ y) (λ j. absurd (omega (arith, ints))) (λ j. omega (arith, ints, clamps)))

pub remainder_monotone : (r s r2 s2 : Range) → s.low ≤ℤ s.high → Within r r2 → Within s s2 → WithinEach (remainder_range r s) (remainder_range r2 s2)
remainder_monotone r s r2 s2 f v w =
    let up : reach_of s ≤ℤ reach_of s2 = size_rises s s2 f w in
    by_reach s None (Some (remainder_within (reach_of s) r)) (λ o. WithinEach o (remainder_range r2 s2)) (λ _. tt)
    (λ l. by_reach s2 None (Some (remainder_within (reach_of s2) r2)) (λ o. WithinEach (Some (remainder_within (reach_of s) r)) o) (λ k. clash (reach_of s) (reach_of s2) up l k)
    (λ _. record { low = low_falls (reach_of s) (reach_of s2) r.low r2.low up l v.low; high = high_rises (reach_of s) (reach_of s2) r.high r2.high up l v.high }))
  where
    clash : (m n : ℤ) → m ≤ℤ n → pos 0 <ℤ m → n ≤ℤ pos 0 → ⊥
    clash m n a b c = omega (arith, ints)

pub remainder_inside : (scalar : Scalar) (r s : Range) → IsInside scalar r → EachInside scalar (remainder_range r s)
remainder_inside scalar r s i = by_reach s None (Some (remainder_within (reach_of s) r)) (EachInside scalar) (λ _. tt) (λ l. within (reach_of s) l)
  where
    within : (m : ℤ) → pos 0 <ℤ m → IsInside scalar (remainder_within m r)
    within m l = let t = type_zero scalar in record {
      low = by_order (pos 0) r.low (pos 0) (int_max r.low (pos 1 -ℤ m)) (λ (x : ℤ). least_of scalar ≤ℤ x) (λ _. t.0) (λ _. omega (arith, ints, clamps, i.low));
      high = by_order r.high (pos 0) (pos 0) (int_min r.high (m -ℤ pos 1)) (λ (x : ℤ). x ≤ℤ greatest_of scalar) (λ _. omega (arith, ints, t.1)) (λ _. omega (arith, ints, clamps, i.high));
      full = by_order (pos 0) r.low (pos 0) (int_max r.low (pos 1 -ℤ m)) (λ (x : ℤ). x ≤ℤ cond (int_le r.high (pos 0)) (pos 0) (int_min r.high (m -ℤ pos 1)))
          (λ a. above (omega (arith, ints))) (λ a. let b : int_max r.low (pos 1 -ℤ m) ≤ℤ pos 0 = omega (arith, ints, clamps) in let c : pos 0 ≤ℤ cond (int_le r.high (pos 0)) (pos 0) (int_min r.high (m -ℤ pos 1)) = above (omega (arith, ints)) in omega (arith, ints, b, c));
    }
      where
        above : pos 0 ≤ℤ pos 0 → pos 0 ≤ℤ cond (int_le r.high (pos 0)) (pos 0) (int_min r.high (m -ℤ pos 1))
        above _ = by_order r.high (pos 0) (pos 0) (int_min r.high (m -ℤ pos 1)) (λ (x : ℤ). pos 0 ≤ℤ x) (λ _. omega (arith, ints)) (λ a. omega (arith, ints, clamps))

-- ---- `& | ^`
pub and_inside : (scalar : Scalar) (r s : Range) → IsInside scalar r → IsInside scalar s → IsInside scalar (and_range (type_range scalar) r s)
and_inside scalar r s i j =
    let t = type_zero scalar in
    by_range (pos 0) r.low _ _ (IsInside scalar)
    (λ a. by_range (pos 0) s.low _ _ (IsInside scalar)
    (λ b. record { low = t.0; high = omega (arith, ints, clamps, i.high); full = omega (arith, ints, clamps, i.full, j.full) })
    (λ b. record { low = t.0; high = i.high; full = omega (arith, ints, i.full) }))
    (λ a. by_range (pos 0) s.low _ _ (IsInside scalar) (λ b. record { low = t.0; high = j.high; full = omega (arith, ints, j.full) }) (λ b. type_inside scalar))

pub and_monotone : (scalar : Scalar) (r s r2 s2 : Range) → IsInside scalar r → IsInside scalar s → Within r r2 → Within s s2 → Within (and_range (type_range scalar) r s) (and_range (type_range scalar) r2 s2)
and_monotone scalar r s r2 s2 i j v w =
    by_range (pos 0) r2.low _ _ (λ x. Within (and_range (type_range scalar) r s) x)
    (λ a. by_range (pos 0) s2.low _ _ (λ x. Within (and_range (type_range scalar) r s) x)
    (λ b. by_range (pos 0) r.low _ _ (λ x. Within x (record { low = pos 0; high = int_min r2.high s2.high }))
    (λ c. by_range (pos 0) s.low _ _ (λ x. Within x (record { low = pos 0; high = int_min r2.high s2.high })) (λ d. record { low = omega (arith, ints); high = omega (arith, ints, clamps, v.high, w.high) }) (λ d. absurd (omega (arith, ints, w.low))))
    (λ c. absurd (omega (arith, ints, v.low))))
    (λ b. by_range (pos 0) r.low _ _ (λ x. Within x (record { low = pos 0; high = r2.high }))
    (λ c. by_range (pos 0) s.low _ _ (λ x. Within x (record { low = pos 0; high = r2.high })) (λ d. record { low = omega (arith, ints); high = omega (arith, ints, clamps, v.high) }) (λ d. record { low = omega (arith, ints); high = v.high }))
    (λ c. absurd (omega (arith, ints, v.low)))))
    (λ a. by_range (pos 0) s2.low _ _ (λ x. Within (and_range (type_range scalar) r s) x)
    (λ b. by_range (pos 0) r.low _ _ (λ x. Within x (record { low = pos 0; high = s2.high }))
    (λ c. by_range (pos 0) s.low _ _ (λ x. Within x (record { low = pos 0; high = s2.high })) (λ d. record { low = omega (arith, ints); high = omega (arith, ints, clamps, w.high) }) (λ d. absurd (omega (arith, ints, w.low))))
    (λ c. by_range (pos 0) s.low _ _ (λ x. Within x (record { low = pos 0; high = s2.high })) (λ d. record { low = omega (arith, ints); high = w.high }) (λ d. absurd (omega (arith, ints, w.low)))))
    (λ b. let k = and_inside scalar r s i j in record { low = k.low; high = k.high }))

pub or_inside : (scalar : Scalar) (r s : Range) → IsInside scalar r → IsInside scalar s → IsInside scalar (or_range (type_range scalar) r s)
or_inside scalar r s i j =
    let t = type_zero scalar in
    let word = (type_word scalar).1 in
    let top : int_max r.high s.high ≤ℤ greatest_of scalar = omega (arith, ints, clamps, i.high, j.high) in
    by_both (int_le (pos 0) r.low) (int_le (pos 0) s.low) _ _ (IsInside scalar)
    (λ e f. let o = ones_reach (int_max r.high s.high) (omega (arith, ints, top, word)) in
    let a : pos 0 ≤ℤ r.low = (le_tells (pos 0) r.low).is_so e in
    let b : pos 0 ≤ℤ int_max r.high s.high = omega (arith, ints, clamps, i.full) in
    record { low = t.0; high = ones_inside scalar (int_max r.high s.high) top; full = omega (arith, ints, b, o.reaches) })
    (λ _. type_inside scalar)

pub or_monotone : (scalar : Scalar) (r s r2 s2 : Range) → IsInside scalar r → IsInside scalar s → IsInside scalar r2 → IsInside scalar s2 → Within r r2 → Within s s2 → Within (or_range (type_range scalar) r s) (or_range (type_range scalar) r2 s2)
or_monotone scalar r s r2 s2 i j i2 j2 v w =
    let word = (type_word scalar).1 in
    let top : int_max r2.high s2.high ≤ℤ greatest_of scalar = omega (arith, ints, clamps, i2.high, j2.high) in
    let more : int_max r.high s.high ≤ℤ int_max r2.high s2.high = omega (arith, ints, clamps, v.high, w.high) in
    by_both (int_le (pos 0) r2.low) (int_le (pos 0) s2.low) _ _ (λ x. Within (or_range (type_range scalar) r s) x)
    (λ e f.
    let a : pos 0 ≤ℤ r2.low = (le_tells (pos 0) r2.low).is_so e in
    let b : pos 0 ≤ℤ s2.low = (le_tells (pos 0) s2.low).is_so f in
    let o = ones_reach (int_max r2.high s2.high) (omega (arith, ints, top, word)) in
    let g : int_max r.high s.high ≤ℤ pos (2 ^ o.power - 1) = subst (λ (m : ℤ). int_max r.high s.high ≤ℤ m) o.is (omega (arith, ints, more, o.reaches)) in
    let h : ones_reaching (int_max r.high s.high) ≤ℤ ones_reaching (int_max r2.high s2.high) = subst (λ (m : ℤ). ones_reaching (int_max r.high s.high) ≤ℤ m) (sym o.is) (ones_least (int_max r.high s.high) o.power g) in
    by_both (int_le (pos 0) r.low) (int_le (pos 0) s.low) _ _ (λ x. Within x (record { low = pos 0; high = ones_reaching (int_max r2.high s2.high) }))
    (λ _ _. record { low = omega (arith, ints); high = h })
    (λ c. absurd (below (omega (arith, ints, v.low)) (omega (arith, ints, w.low)) c)))
    (λ _. let k = or_inside scalar r s i j in record { low = k.low; high = k.high })
  where
    below : pos 0 ≤ℤ r.low → pos 0 ≤ℤ s.low → (int_le (pos 0) r.low ≡ false) ⊎ (int_le (pos 0) s.low ≡ false) → ⊥
    below a b (inl e) = let t : int_le (pos 0) r.low ≡ true = (le_tells (pos 0) r.low).so_is a in let u : true ≡ false = sym t ∙ e in cc
    below a b (inr e) = let t : int_le (pos 0) s.low ≡ true = (le_tells (pos 0) s.low).so_is b in let u : true ≡ false = sym t ∙ e in cc

-- ---- `>>`
pub shr_inside : (scalar : Scalar) (r : Range) → IsInside scalar r → IsInside scalar (shr_range r)
shr_inside scalar r i = let t = type_zero scalar in record { low = omega (arith, ints, clamps, i.low, t.0); high = omega (arith, ints, clamps, i.high, t.1); full = omega (arith, ints, clamps, i.full) }

pub shr_monotone : (r r2 : Range) → Within r r2 → Within (shr_range r) (shr_range r2)
shr_monotone r r2 v = record { low = omega (arith, ints, clamps, v.low); high = omega (arith, ints, clamps, v.high) }

-- ---- comparisons
or_left : (a b : Bool) → a ≡ true → (a || b) ≡ true
or_left true b h = refl
or_left false b h = cc

or_right : (a b : Bool) → b ≡ true → (a || b) ≡ true
or_right true b h = refl
or_right false b h = h

either : (a b : Bool) → (a || b) ≡ true → (a ≡ true) ⊎ (b ≡ true)
either true b h = inl refl
either false b h = inr h

-- what holds of all pairs of wider intervals holds of all pairs
surely_narrower : (cmp : Cmp) (r s r2 s2 : Range) → Within r r2 → Within s s2 → surely cmp r2 s2 ≡ true → surely cmp r s ≡ true
surely_narrower Eq r s r2 s2 v w e =
    let t : (int_le r2.high s2.low ≡ true) × (int_le s2.high r2.low ≡ true) = two _ _ e in
    let p : r2.high ≤ℤ s2.low = (le_tells r2.high s2.low).is_so t.0 in
    let q : s2.high ≤ℤ r2.low = (le_tells s2.high r2.low).is_so t.1 in
    both _ _ ((le_tells r.high s.low).so_is (omega (arith, ints, v.high, w.low))) ((le_tells s.high r.low).so_is (omega (arith, ints, v.low, w.high)))
surely_narrower Ne r s r2 s2 v w e = elim (either _ _ e) [
  | inl f ↦ let l : r2.high <ℤ s2.low = lt_is r2.high s2.low f in or_left _ _ (is_lt r.high s.low (omega (arith, ints, v.high, w.low)))
  | inr f ↦ let l : s2.high <ℤ r2.low = lt_is s2.high r2.low f in or_right _ _ (is_lt s.high r.low (omega (arith, ints, v.low, w.high)))
]
surely_narrower Lt r s r2 s2 v w e = let l : r2.high <ℤ s2.low = lt_is r2.high s2.low e in is_lt r.high s.low (omega (arith, ints, v.high, w.low))
surely_narrower Le r s r2 s2 v w e = let l : r2.high ≤ℤ s2.low = (le_tells r2.high s2.low).is_so e in (le_tells r.high s.low).so_is (omega (arith, ints, v.high, w.low))
surely_narrower Gt r s r2 s2 v w e = let l : s2.high <ℤ r2.low = lt_is s2.high r2.low e in is_lt s.high r.low (omega (arith, ints, v.low, w.high))
surely_narrower Ge r s r2 s2 v w e = let l : s2.high ≤ℤ r2.low = (le_tells s2.high r2.low).is_so e in (le_tells s.high r.low).so_is (omega (arith, ints, v.low, w.high))

not_both : (cmp : Cmp) (r s : Range) → r.low ≤ℤ r.high → s.low ≤ℤ s.high → surely cmp r s ≡ true → surely (opposite cmp) r s ≡ true → ⊥
not_both cmp r s f g h k =
    let a : InRange r.low r = record { from = omega (arith, ints); to = f } in
    let b : InRange s.low s = record { from = omega (arith, ints); to = g } in
    let t : cmp_of cmp r.low s.low ≡ true = surely_holds cmp r s r.low s.low a b h in
    let u : cmp_of cmp r.low s.low ≡ false = opposite_is cmp r.low s.low (surely_holds (opposite cmp) r s r.low s.low a b k) in
    let c : true ≡ false = sym t ∙ u in cc

abbrev zero_one : Range
zero_one = record { low = pos 0; high = pos 1 }

abbrev one_one : Range
one_one = record { low = pos 1; high = pos 1 }

abbrev zero_zero : Range
zero_zero = record { low = pos 0; high = pos 0 }

pub cmp_monotone : (cmp : Cmp) (r s r2 s2 : Range) → r.low ≤ℤ r.high → s.low ≤ℤ s.high → Within r r2 → Within s s2 → Within (cmp_range cmp r s) (cmp_range cmp r2 s2)
cmp_monotone cmp r s r2 s2 f g v w = by (surely cmp r2 s2) (surely (opposite cmp) r2 s2) (surely cmp r s) (surely (opposite cmp) r s) refl refl refl refl
  where
    by : (a b c d : Bool) → surely cmp r2 s2 ≡ a → surely (opposite cmp) r2 s2 ≡ b → surely cmp r s ≡ c → surely (opposite cmp) r s ≡ d → Within (cond c one_one (cond d zero_zero zero_one)) (cond a one_one (cond b zero_zero zero_one))
    by true b true d p q t u = record { low = omega (arith, ints); high = omega (arith, ints) }
    by true b false d p q t u = let n = surely_narrower cmp r s r2 s2 v w p in let x : true ≡ false = sym n ∙ t in absurd (cc)
    by false true true d p q t u = absurd (not_both cmp r s f g t (surely_narrower (opposite cmp) r s r2 s2 v w q))
    by false true false true p q t u = record { low = omega (arith, ints); high = omega (arith, ints) }
    by false true false false p q t u = let n = surely_narrower (opposite cmp) r s r2 s2 v w q in let x : true ≡ false = sym n ∙ u in absurd (cc)
    by false false true d p q t u = record { low = omega (arith, ints); high = omega (arith, ints) }
    by false false false true p q t u = record { low = omega (arith, ints); high = omega (arith, ints) }
    by false false false false p q t u = record { low = omega (arith, ints); high = omega (arith, ints) }

-- one of three
pub cmp_cases : (cmp : Cmp) (r s : Range) (P : Range → Type 0) → P (record { low = pos 1; high = pos 1 }) → P (record { low = pos 0; high = pos 0 }) → P (record { low = pos 0; high = pos 1 }) → P (cmp_range cmp r s)
cmp_cases cmp r s P h k l = by (surely cmp r s) (surely (opposite cmp) r s)
  where
    by : (c d : Bool) → P (cond c one_one (cond d zero_zero zero_one))
    by true d = h
    by false true = k
    by false false = l

-- ---- conversions
pub convert_inside : (target : Scalar) (r : Range) → r.low ≤ℤ r.high → IsInside target (convert_range target r)
convert_inside target r f = unless_cases (type_range target) r (IsInside target) (λ p q. record { low = p; high = q; full = f }) (λ _. type_inside target)

pub convert_monotone : (target : Scalar) (r r2 : Range) → r.low ≤ℤ r.high → Within r r2 → Within (convert_range target r) (convert_range target r2)
convert_monotone target r r2 f v = whole_monotone (type_range target) r r2 f (type_inside target).full v
