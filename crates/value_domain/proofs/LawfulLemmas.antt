-- The thresholds of every program are lawful.
use Rattle.std.proofs.Common.{cond, ◌≡◌, ℕ, zero, suc, ◌+◌, ◌-◌, ◌^◌, ◌<◌, ◌≤◌, ℤ, pos, negsuc, ◌+ℤ◌, ◌-ℤ◌, ◌≤ℤ◌, ◌⊎◌, inl, inr, Bool, true, false, ◌&&◌, refl, sym, ◌∙◌, ap, subst, int_le, int_lt, arith, List, [], ◌∷◌}
use Rattle.std.proofs.lemmas.Int.{ints}
use Rattle.std.proofs.lemmas.Nat.{pow_pos}
use Rattle.std.proofs.lemmas.Bool.{cases_lt}
use Rattle.std.proofs.Math.Nat.{pow-le-pow_right}
use Rattle.gimple_ir.specs.declared.scalar.Scalar.{Scalar}
use Rattle.gimple_ir.specs.declared.program.Program.{Program}
use Rattle.gimple_core.specs.Operators.{is_signed, least_of, greatest_of, bits_of}
use Rattle.lattice_parts.specs.Sets.{Has, Ascending, placed}
use Rattle.lattice_parts.specs.SetLemmas.{placed_holds, placed_ascends}
use Rattle.value_domain.specs.OrderLemmas.{int_order}
use Rattle.value_domain.specs.RangeOperators.{lowest, highest}
use Rattle.value_domain.specs.FitLemmas.{le_tells}
use Rattle.value_domain.specs.Thresholds.{IsLawful, put_word, words_put, power_put, negative_put, powers_put, negatives_put, fixed_thresholds, program_noted, thresholds_list}
use Rattle.value_domain.proofs.ScalarLemmas.{two, both, signed_ends, unsigned_ends, width_bound}

abbrev IsWordNumber : ℤ → Type 0
IsWordNumber t = (lowest ≤ℤ t) × (t ≤ℤ highest)

-- what putting a number keeps
record IsOrdered (ts : List ℤ) : Type 0 where
  rising : Ascending int_lt ts
  words : (t : ℤ) → Has t ts → IsWordNumber t

put_cases : (z : ℤ) (ts : List ℤ) (P : List ℤ → Type 0) → (IsWordNumber z → P (placed int_lt z ts)) → P ts → P (put_word z ts)
put_cases z ts P h k = by (int_le lowest z && int_le z highest) refl
  where
    by : (b : Bool) → (int_le lowest z && int_le z highest) ≡ b → P (cond b (placed int_lt z ts) ts)
    by true e = let f : (int_le lowest z ≡ true) × (int_le z highest ≡ true) = two _ _ e in h ((le_tells lowest z).is_so f.0, (le_tells z highest).is_so f.1)
    by false e = k

put_ordered : (z : ℤ) (ts : List ℤ) → IsOrdered ts → IsOrdered (put_word z ts)
put_ordered z ts o = put_cases z ts IsOrdered (λ w. record { rising = placed_ascends int_lt int_order z ts o.rising; words = λ t h. elim ((placed_holds int_lt int_order z ts).0 t h) [ inl e ↦ subst IsWordNumber (sym e) w | inr m ↦ o.words t m ] }) o

put_keeps : (z t : ℤ) (ts : List ℤ) → Has t ts → Has t (put_word z ts)
put_keeps z t ts h = put_cases z ts (Has t) (λ _. (placed_holds int_lt int_order z ts).1 t (inr h)) h

put_has : (z : ℤ) (ts : List ℤ) → IsWordNumber z → Has z (put_word z ts)
put_has z ts w = rw (both _ _ ((le_tells lowest z).so_is w.0) ((le_tells z highest).so_is w.1)) ((placed_holds int_lt int_order z ts).1 z (inl refl))

words_ordered : (zs ts : List ℤ) → IsOrdered ts → IsOrdered (words_put zs ts)
words_ordered [] ts o = o
words_ordered (z ∷ zs) ts o = words_ordered zs (put_word z ts) (put_ordered z ts o)

words_keep : (zs ts : List ℤ) (t : ℤ) → Has t ts → Has t (words_put zs ts)
words_keep [] ts t h = h
words_keep (z ∷ zs) ts t h = words_keep zs (put_word z ts) t (put_keeps z t ts h)

power_ordered : (k : ℕ) (ts : List ℤ) → IsOrdered ts → IsOrdered (power_put k ts)
power_ordered k ts o = put_ordered (pos (2 ^ k + 1)) (put_word (pos (2 ^ k)) (put_word (pos (2 ^ k - 1)) ts)) (put_ordered (pos (2 ^ k)) (put_word (pos (2 ^ k - 1)) ts) (put_ordered (pos (2 ^ k - 1)) ts o))

power_keeps : (k : ℕ) (t : ℤ) (ts : List ℤ) → Has t ts → Has t (power_put k ts)
power_keeps k t ts h = put_keeps (pos (2 ^ k + 1)) t (put_word (pos (2 ^ k)) (put_word (pos (2 ^ k - 1)) ts)) (put_keeps (pos (2 ^ k)) t (put_word (pos (2 ^ k - 1)) ts) (put_keeps (pos (2 ^ k - 1)) t ts h))

negative_ordered : (k : ℕ) (ts : List ℤ) → IsOrdered ts → IsOrdered (negative_put k ts)
negative_ordered k ts o = put_ordered (pos 0 -ℤ pos (2 ^ k + 1)) (put_word (pos 0 -ℤ pos (2 ^ k)) (put_word (pos 0 -ℤ pos (2 ^ k - 1)) ts)) (put_ordered (pos 0 -ℤ pos (2 ^ k)) (put_word (pos 0 -ℤ pos (2 ^ k - 1)) ts) (put_ordered (pos 0 -ℤ pos (2 ^ k - 1)) ts o))

negative_keeps : (k : ℕ) (t : ℤ) (ts : List ℤ) → Has t ts → Has t (negative_put k ts)
negative_keeps k t ts h = put_keeps (pos 0 -ℤ pos (2 ^ k + 1)) t (put_word (pos 0 -ℤ pos (2 ^ k)) (put_word (pos 0 -ℤ pos (2 ^ k - 1)) ts)) (put_keeps (pos 0 -ℤ pos (2 ^ k)) t (put_word (pos 0 -ℤ pos (2 ^ k - 1)) ts) (put_keeps (pos 0 -ℤ pos (2 ^ k - 1)) t ts h))

powers_ordered : (more k : ℕ) (ts : List ℤ) → IsOrdered ts → IsOrdered (powers_put more k ts)
unfolding powers_put
powers_ordered zero k ts o = o
powers_ordered (suc more) k ts o = powers_ordered more (suc k) (power_put k ts) (power_ordered k ts o)

powers_keep : (more k : ℕ) (t : ℤ) (ts : List ℤ) → Has t ts → Has t (powers_put more k ts)
unfolding powers_put
powers_keep zero k t ts h = h
powers_keep (suc more) k t ts h = powers_keep more (suc k) t (power_put k ts) (power_keeps k t ts h)

powers_has : (more k i : ℕ) (t : ℤ) (ts : List ℤ) → k ≤ i → i < k + more → ((us : List ℤ) → Has t (power_put i us)) → Has t (powers_put more k ts)
unfolding powers_put
powers_has zero k i t ts h l m = absurd (omega arith)
powers_has (suc more) k i t ts h l m = elim (cases_lt k i) [
  | inl a ↦ powers_has more (suc k) i t (power_put k ts) (omega arith) (omega arith) m
  | inr a ↦ powers_keep more (suc k) t (power_put k ts) (let e : i ≡ k = omega arith in subst (λ (j : ℕ). Has t (power_put j ts)) e (m ts))
]

negatives_ordered : (more k : ℕ) (ts : List ℤ) → IsOrdered ts → IsOrdered (negatives_put more k ts)
unfolding negatives_put
negatives_ordered zero k ts o = o
negatives_ordered (suc more) k ts o = negatives_ordered more (suc k) (negative_put k ts) (negative_ordered k ts o)

negatives_keep : (more k : ℕ) (t : ℤ) (ts : List ℤ) → Has t ts → Has t (negatives_put more k ts)
unfolding negatives_put
negatives_keep zero k t ts h = h
negatives_keep (suc more) k t ts h = negatives_keep more (suc k) t (negative_put k ts) (negative_keeps k t ts h)

negatives_has : (more k i : ℕ) (t : ℤ) (ts : List ℤ) → k ≤ i → i < k + more → ((us : List ℤ) → Has t (negative_put i us)) → Has t (negatives_put more k ts)
unfolding negatives_put
negatives_has zero k i t ts h l m = absurd (omega arith)
negatives_has (suc more) k i t ts h l m = elim (cases_lt k i) [
  | inl a ↦ negatives_has more (suc k) i t (negative_put k ts) (omega arith) (omega arith) m
  | inr a ↦ negatives_keep more (suc k) t (negative_put k ts) (let e : i ≡ k = omega arith in subst (λ (j : ℕ). Has t (negative_put j ts)) e (m ts))
]

power_le : (k i : ℕ) → k ≤ i → 2 ^ k ≤ 2 ^ i
power_le k i h = pow-le-pow_right {n = 2} (omega arith) h

ones_put : (i : ℕ) (us : List ℤ) → Has (pos (2 ^ i - 1)) (put_word (pos (2 ^ i - 1)) us) → Has (pos (2 ^ i - 1)) (power_put i us)
ones_put i us h = put_keeps (pos (2 ^ i + 1)) (pos (2 ^ i - 1)) (put_word (pos (2 ^ i)) (put_word (pos (2 ^ i - 1)) us)) (put_keeps (pos (2 ^ i)) (pos (2 ^ i - 1)) (put_word (pos (2 ^ i - 1)) us) h)

ones_fixed : (i : ℕ) → i ≤ 64 → Has (pos (2 ^ i - 1)) fixed_thresholds
unfolding fixed_thresholds
ones_fixed i h =
    let p : 2 ^ i ≤ 2 ^ 64 = power_le i 64 h in
    negatives_keep 64 0 (pos (2 ^ i - 1)) (powers_put 65 0 (pos 0 ∷ [])) (powers_has 65 0 i (pos (2 ^ i - 1)) (pos 0 ∷ []) (omega arith) (omega arith) (λ us. ones_put i us (put_has (pos (2 ^ i - 1)) us (omega (arith, ints), omega (arith, ints)))))

negative_fixed : (i : ℕ) → i < 64 → Has (pos 0 -ℤ pos (2 ^ i)) fixed_thresholds
unfolding fixed_thresholds
negative_fixed i h =
    let p : 2 ^ i ≤ 2 ^ 63 = power_le i 63 (omega arith) in
    negatives_has 64 0 i (pos 0 -ℤ pos (2 ^ i)) (powers_put 65 0 (pos 0 ∷ [])) (omega arith) (omega arith) (λ us. put_keeps (pos 0 -ℤ pos (2 ^ i + 1)) (pos 0 -ℤ pos (2 ^ i)) (put_word (pos 0 -ℤ pos (2 ^ i)) (put_word (pos 0 -ℤ pos (2 ^ i - 1)) us)) (put_has (pos 0 -ℤ pos (2 ^ i)) (put_word (pos 0 -ℤ pos (2 ^ i - 1)) us) (omega (arith, ints), omega (arith, ints))))

zero_fixed : Has (pos 0) fixed_thresholds
unfolding fixed_thresholds
zero_fixed = negatives_keep 64 0 (pos 0) (powers_put 65 0 (pos 0 ∷ [])) (powers_keep 65 0 (pos 0) (pos 0 ∷ []) (inl refl))

one_fixed : Has (pos 1) fixed_thresholds
unfolding fixed_thresholds
one_fixed = negatives_keep 64 0 (pos 1) (powers_put 65 0 (pos 0 ∷ [])) (powers_has 65 0 0 (pos 1) (pos 0 ∷ []) (omega arith) (omega arith) (λ us. put_keeps (pos 2) (pos 1) (put_word (pos 1) (put_word (pos 0) us)) (put_has (pos 1) (put_word (pos 0) us) (omega (arith, ints), omega (arith, ints)))))

ordered_fixed : IsOrdered fixed_thresholds
unfolding fixed_thresholds
ordered_fixed = negatives_ordered 64 0 (powers_put 65 0 (pos 0 ∷ [])) (powers_ordered 65 0 (pos 0 ∷ []) (record { rising = (tt, tt); words = λ t h. first t h }))
  where
    first : (t : ℤ) → (t ≡ pos 0) ⊎ ⊥ → IsWordNumber t
    first t (inl e) = subst IsWordNumber (sym e) (omega (arith, ints), omega (arith, ints))
    first t (inr h) = absurd h

ends_fixed : (scalar : Scalar) → Has (least_of scalar) fixed_thresholds × Has (greatest_of scalar) fixed_thresholds
ends_fixed scalar = by (is_signed scalar) refl
  where
    by : (b : Bool) → is_signed scalar ≡ b → Has (least_of scalar) fixed_thresholds × Has (greatest_of scalar) fixed_thresholds
    by true e = let u = signed_ends scalar e in let w = width_bound scalar in (subst (λ (z : ℤ). Has z fixed_thresholds) (sym u.0) (negative_fixed (bits_of scalar - 1) (omega (arith, w.0, w.1))), subst (λ (z : ℤ). Has z fixed_thresholds) (sym u.1) (ones_fixed (bits_of scalar - 1) (omega (arith, w.1))))
    by false e = let u = unsigned_ends scalar e in let w = width_bound scalar in (subst (λ (z : ℤ). Has z fixed_thresholds) (sym u.0) zero_fixed, subst (λ (z : ℤ). Has z fixed_thresholds) (sym u.1) (ones_fixed (bits_of scalar) w.1))

-- whatever numbers are put among the fixed ones
pub words_lawful : (zs : List ℤ) → IsLawful (words_put zs fixed_thresholds)
words_lawful zs =
    let o = words_ordered zs fixed_thresholds ordered_fixed in
    record {
      rising = o.rising;
      words = o.words;
      ends = λ scalar. let e = ends_fixed scalar in (words_keep zs fixed_thresholds (least_of scalar) e.0, words_keep zs fixed_thresholds (greatest_of scalar) e.1);
      truths = (words_keep zs fixed_thresholds (pos 0) zero_fixed, words_keep zs fixed_thresholds (pos 1) one_fixed);
    }

pub list_lawful : (p : Program) → IsLawful (thresholds_list p)
unfolding thresholds_list
list_lawful p = words_lawful (program_noted p)

-- one step of each loop
pub powers_step : (k : ℕ) (ts : List ℤ) → k < 65 → powers_put (65 - k) k ts ≡ powers_put (65 - (k + 1)) (k + 1) (power_put k ts)
unfolding powers_put
powers_step k ts h =
    let e : 65 - k ≡ suc (65 - (k + 1)) = omega arith in
    let f : suc k ≡ k + 1 = omega arith in
    ap (λ (m : ℕ). powers_put m k ts) e ∙ ap (λ (j : ℕ). powers_put (65 - (k + 1)) j (power_put k ts)) f

pub powers_end : (k : ℕ) (ts : List ℤ) → k ≡ 65 → powers_put (65 - k) k ts ≡ ts
unfolding powers_put
powers_end k ts e = ap (λ (j : ℕ). powers_put (65 - j) j ts) e

pub negatives_step : (k : ℕ) (ts : List ℤ) → k < 64 → negatives_put (64 - k) k ts ≡ negatives_put (64 - (k + 1)) (k + 1) (negative_put k ts)
unfolding negatives_put
negatives_step k ts h =
    let e : 64 - k ≡ suc (64 - (k + 1)) = omega arith in
    let f : suc k ≡ k + 1 = omega arith in
    ap (λ (m : ℕ). negatives_put m k ts) e ∙ ap (λ (j : ℕ). negatives_put (64 - (k + 1)) j (negative_put k ts)) f

pub negatives_end : (k : ℕ) (ts : List ℤ) → k ≡ 64 → negatives_put (64 - k) k ts ≡ ts
unfolding negatives_put
negatives_end k ts e = ap (λ (j : ℕ). negatives_put (64 - j) j ts) e

-- the numbers that the code puts
pub power_is : (k : ℕ) (b : ℤ) → b ≡ pos (2 ^ k - 1) → ((b +ℤ pos 1) ≡ pos (2 ^ k)) × ((b +ℤ pos 2) ≡ pos (2 ^ k + 1))
power_is k b e = let p : 0 < 2 ^ k = pow_pos k in (ap (λ (z : ℤ). z +ℤ pos 1) e ∙ omega (arith, ints), ap (λ (z : ℤ). z +ℤ pos 2) e ∙ omega (arith, ints))

pub negative_is : (k : ℕ) (b : ℤ) → b ≡ pos (2 ^ k - 1) → ((pos 0 -ℤ b) ≡ (pos 0 -ℤ pos (2 ^ k - 1))) × ((negsuc 0 -ℤ b) ≡ (pos 0 -ℤ pos (2 ^ k))) × ((negsuc 1 -ℤ b) ≡ (pos 0 -ℤ pos (2 ^ k + 1)))
negative_is k b e = let p : 0 < 2 ^ k = pow_pos k in (ap (λ (z : ℤ). pos 0 -ℤ z) e, ap (λ (z : ℤ). negsuc 0 -ℤ z) e ∙ omega (arith, ints), ap (λ (z : ℤ). negsuc 1 -ℤ z) e ∙ omega (arith, ints))
