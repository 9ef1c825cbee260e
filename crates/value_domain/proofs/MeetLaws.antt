-- Meets and taken comparisons: they hold the values, are monotone and fit.
use Rattle.std.proofs.Common.{cond, ◌≡◌, ℕ, ◌<◌, ◌==◌, min, max, ℤ, inl, inr, Bool, true, false, refl, sym, subst, int_le, arith, bit_or, List, Option, Some, None}
use Rattle.std.specs.Int.{int_min, int_max, bit_at}
use Rattle.std.proofs.lemmas.Int.{ints, clamps}
use Rattle.std.proofs.lemmas.Bool.{eqb-true, eq-eqb}
use Rattle.std.proofs.lemmas.Nat.{or_lt}
use Rattle.std.proofs.lemmas.Nat.Bits.{bit_at_and, bit_at_or, bit_at-lt, same_from_bits}
use Rattle.gimple_ir.specs.declared.scalar.Scalar.{Scalar}
use Rattle.gimple_ir.specs.declared.value.Constant.{Constant}
use Rattle.lattice_parts.specs.Sets.{Has, has_by, kept_members}
use Rattle.lattice_parts.specs.SetLemmas.{is_has, kept_holds}
use Rattle.value_domain.specs.declared.bits.Bits.{Bits}
use Rattle.value_domain.specs.declared.range.Range.{Range}
use Rattle.value_domain.specs.declared.vals.Vals.{Vals}
use Rattle.value_domain.specs.declared.vals.Vals.TheVariants.{Any, Nothing, Among}
use Rattle.value_domain.specs.Constants.{before}
use Rattle.value_domain.specs.OrderLemmas.{constant_order}
use Rattle.value_domain.specs.Bitmasks.{pattern, Agrees, IsBits, conflict, bits_met}
use Rattle.value_domain.specs.BitsLemmas.{bit_agrees}
use Rattle.value_domain.specs.Ranges.{Within, FitsRange, meet_range}
use Rattle.value_domain.specs.FitLemmas.{le_tells, meet_holds, picked_min, picked_max}
use Rattle.value_domain.specs.AbsOperators.{assembled, vals_met, abs_met}
use Rattle.value_domain.specs.Values.{FitsVals, is_none_val, none_val}
use Rattle.value_domain.specs.Holding.{Holds, IsAmong, constant_of, number_part, ValsOf, mask_width}
use Rattle.value_domain.specs.Laws.{MeetHolds, MeetFits}
use Rattle.value_domain.proofs.BitSoundness.{no_conflict}
use Rattle.value_domain.proofs.ValsLaws.{MayFit, of_holds, kept_fit, kept_of}
use Rattle.value_domain.proofs.WholeLemmas.{assembled_holds, unless_proper, IsGood, none_good, assembled_good}
use Rattle.value_domain.proofs.AbsLaws.{none_or_not}

-- ---- parts of a meet
met_among : (o : Option Constant) (a b : Vals) → IsAmong o a → IsAmong o b → IsAmong o (vals_met a b)
met_among o a Any h k = h
met_among o a Nothing h k = absurd k
met_among o Any (Among m ys) h k = k
met_among o Nothing (Among m ys) h k = absurd h
met_among None (Among l xs) (Among m ys) h k = absurd h
met_among (Some c) (Among l xs) (Among m ys) h k = of_holds l (kept_members (λ d. has_by before d ys) xs) c (kept_holds (λ d. has_by before d ys) xs c h (is_has before constant_order c ys k))

met_row : (x p q u v : ℕ) → x < 2 → p < 2 → q < 2 → min x p ≡ u → min x q ≡ v → min x (max p q) ≡ max u v
met_row x p q u v a b c d e = omega arith

met_agrees : (n : ℕ) (a b : Bits) → Agrees n a → Agrees n b → Agrees n (record { mask = bit_or a.mask b.mask; value = bit_or a.value b.value })
met_agrees n a b h k = same_from_bits _ _ (λ (i : ℕ). simp (bit_at_and, bit_at_or) (met_row (bit_at n i) (bit_at a.mask i) (bit_at b.mask i) (bit_at a.value i) (bit_at b.value i) (bit_at-lt n i) (bit_at-lt a.mask i) (bit_at-lt b.mask i) (bit_agrees n i a h) (bit_agrees n i b k)))

abbrev both_bits : Bits → Bits → Bits
both_bits a b = record { mask = bit_or a.mask b.mask; value = bit_or a.value b.value }

met_is : (n : ℕ) (a b : Bits) → Agrees n a → Agrees n b → bits_met a b ≡ Some (both_bits a b)
met_is n a b h k = rw (eq-eqb _ _ (no_conflict n a b h k)) refl

met_bits_cases : (a b : Bits) (P : Option Bits → Type 0) → (conflict a b ≡ 0 → P (Some (both_bits a b))) → P None → P (bits_met a b)
met_bits_cases a b P h k = by (conflict a b == 0) refl
  where
    by : (t : Bool) → (conflict a b == 0) ≡ t → P (cond t (Some (both_bits a b)) None)
    by true e = h (eqb-true _ _ e)
    by false e = k

within_row : (p q u v : ℕ) → min u p ≡ u → min v q ≡ v → min (max u v) (max p q) ≡ max u v
within_row p q u v a b = omega arith

met_within : (a b : Bits) → IsBits a → IsBits b → IsBits (both_bits a b)
met_within a b h k = same_from_bits _ _ (λ (i : ℕ). simp (bit_at_and, bit_at_or) (within_row (bit_at a.mask i) (bit_at b.mask i) (bit_at a.value i) (bit_at b.value i) (bit_agrees a.value i a h) (bit_agrees b.value i b k)))

met_vals_fit : (most : ℕ) (a b : Vals) → FitsVals most a → FitsVals most b → MayFit most (vals_met a b)
met_vals_fit most Nothing b f g = absurd f
met_vals_fit most a Nothing f g = absurd g
met_vals_fit most Any Any f g = tt
met_vals_fit most (Among l xs) Any f g = f
met_vals_fit most Any (Among m ys) f g = g
met_vals_fit most (Among l xs) (Among m ys) f g = kept_fit most (λ d. has_by before d ys) (Among l xs) f

met_vals_of : (scalar : Scalar) (a b : Vals) → ValsOf scalar a → ValsOf scalar b → ValsOf scalar (vals_met a b)
met_vals_of scalar a Any f g = f
met_vals_of scalar Any Nothing f g = tt
met_vals_of scalar Nothing Nothing f g = tt
met_vals_of scalar (Among l xs) Nothing f g = tt
met_vals_of scalar Any (Among m ys) f g = g
met_vals_of scalar Nothing (Among m ys) f g = tt
met_vals_of scalar (Among l xs) (Among m ys) f g = kept_of scalar (λ d. has_by before d ys) (Among l xs) f

-- a meet of intervals with ends in the thresholds
pub meet_fits : (ts : List ℤ) (t r x : Range) → FitsRange ts t → FitsRange ts r → meet_range t r ≡ Some x → FitsRange ts x × (Within x t × Within x r)
meet_fits ts t r x f g e = by (int_le (int_max t.low r.low) (int_min t.high r.high)) refl e
  where
    m : Range
    m = record { low = int_max t.low r.low; high = int_min t.high r.high }

    by : (b : Bool) → int_le (int_max t.low r.low) (int_min t.high r.high) ≡ b → cond b (Some (record { low = int_max t.low r.low; high = int_min t.high r.high })) None ≡ Some x → FitsRange ts x × (Within x t × Within x r)
    by true h k =
        let s : (record { low = int_max t.low r.low; high = int_min t.high r.high }) ≡ x = cc in
        let P : Range → Type 0 = λ y. FitsRange ts y × (Within y t × Within y r) in
        subst P s (
          record { low = picked_max t.low r.low (λ (z : ℤ). Has z ts) f.low g.low; high = picked_min t.high r.high (λ (z : ℤ). Has z ts) f.high g.high; full = (le_tells _ _).is_so h },
          (record { low = omega (arith, ints, clamps); high = omega (arith, ints, clamps) }, record { low = omega (arith, ints, clamps); high = omega (arith, ints, clamps) }),
        )
    by false h k = cc

pub meet_holds_all : MeetHolds
unfolding abs_met
meet_holds_all most ts a b fa fb v ha hb =
    elim (none_or_not most ts a fa) [
      | inl n ↦ absurd (n.1 v ha)
      | inr i ↦ elim (none_or_not most ts b fb) [
        | inl n ↦ absurd (n.1 v hb)
        | inr j ↦ subst (Holds v) (sym (unless_proper a b _ i.0 j.0))
            (subst (λ o. Holds v (assembled (vals_met a.vals b.vals) o (meet_range a.range b.range))) (sym (met_is (pattern (number_part v)) a.bits b.bits ha.bits hb.bits))
            (assembled_holds v (vals_met a.vals b.vals) (both_bits a.bits b.bits) (meet_range a.range b.range) (met_among (constant_of v) a.vals b.vals ha.vals hb.vals) (met_agrees (pattern (number_part v)) a.bits b.bits ha.bits hb.bits) (meet_holds a.range b.range (number_part v) ha.range hb.range)))
      ]
    ]

clash : (b : Bool) → b ≡ true → b ≡ false → ⊥
clash true e f = cc
clash false e f = cc

no_bits : (v : Vals) (o : Option Range) → assembled v None o ≡ none_val
no_bits Nothing o = refl
no_bits Any o = refl
no_bits (Among l xs) o = refl

pub meet_fits_all : MeetFits
unfolding abs_met
meet_fits_all most ts scalar a b (inl n) oa fb ob = rw (n.bare) (none_good most ts scalar)
meet_fits_all most ts scalar a b (inr p) oa (inl n) ob = rw (p.full, n.bare) (none_good most ts scalar)
meet_fits_all most ts scalar a b (inr p) (inl n) (inr q) ob = absurd (clash (is_none_val a) n p.full)
meet_fits_all most ts scalar a b (inr p) (inr oa) (inr q) (inl n) = absurd (clash (is_none_val b) n q.full)
meet_fits_all most ts scalar a b (inr p) (inr oa) (inr q) (inr ob) =
    rw (p.full, q.full) (met_bits_cases a.bits b.bits (λ o. IsGood most ts scalar (assembled (vals_met a.vals b.vals) o (meet_range a.range b.range)))
    (λ _. assembled_good most ts scalar (vals_met a.vals b.vals) (both_bits a.bits b.bits) (meet_range a.range b.range) (record {
      vals = met_vals_fit most a.vals b.vals p.first q.first;
      kind = met_vals_of scalar a.vals b.vals oa.vals ob.vals;
      within = met_within a.bits b.bits p.second.within q.second.within;
      mask = or_lt (mask_width scalar) a.bits.mask b.bits.mask oa.mask ob.mask;
      range = λ r e. let m = meet_fits ts a.range b.range r p.third q.third e in (m.0, wider m.1.0 oa.range);
    }))
    (subst (IsGood most ts scalar) (sym (no_bits (vals_met a.vals b.vals) (meet_range a.range b.range))) (none_good most ts scalar)))
  where
    wider : {x y z : Range} → Within x y → Within y z → Within x z
    wider v w = record { low = omega (arith, ints, v.low, w.low); high = omega (arith, ints, v.high, w.high) }
