-- The laws of abstract values.
use Rattle.std.proofs.Common.{cond, ◌≡◌, ◌≢◌, ℕ, ◌+◌, ◌<◌, ◌≤◌, ◌⊎◌, inl, inr, ℤ, ◌≤ℤ◌, int_lt, Bool, true, false, refl, sym, ◌∙◌, subst, arith, List, [], ◌∷◌, length, leb}
use Rattle.std.proofs.lemmas.Int.{ints, clamps}
use Rattle.std.proofs.lemmas.Bool.{leb-true}
use Rattle.fix_engine.specs.Lattice.{LatticeLaws}
use Rattle.gimple_ir.specs.declared.value.Constant.{Constant}
use Rattle.value_domain.specs.declared.range.Range.{Range}
use Rattle.value_domain.specs.declared.vals.Vals.{Vals}
use Rattle.value_domain.specs.declared.vals.Vals.TheVariants.{Any, Nothing, Among}
use Rattle.value_domain.specs.declared.abs_val.AbsVal.{AbsVal}
use Rattle.lattice_parts.specs.Sets.{Has, Subset, united}
use Rattle.lattice_parts.specs.SetLemmas.{united_ascends, united_right}
use Rattle.lattice_parts.specs.Parts.{PartLaws, FitsParts, parts_below, parts_joined, parts_rank}
use Rattle.lattice_parts.specs.PartLemmas.{viewed_laws, lifted_laws}
use Rattle.lattice_parts.specs.Finite.{Anything, Members, FitsFinite, finite_joined, finite_rank}
use Rattle.lattice_parts.specs.FiniteLemmas.{finite_laws}
use Rattle.value_domain.specs.Constants.{before}
use Rattle.value_domain.specs.Bitmasks.{FitsBits, bits_rank, bits_below, bits_joined}
use Rattle.value_domain.specs.Ranges.{hull, FitsRange, range_below, outside, is_bare}
use Rattle.value_domain.specs.Values.{finite_of, FitsVals, vals_below, vals_joined, parts_of, none_val, FitsWith, height_with, rank_with, limit_in, thresholds_in, FitsAbsVal, abs_val_height, abs_val_rank, abs_val_below, abs_val_joined}
use Rattle.value_domain.specs.OrderLemmas.{constant_order}
use Rattle.value_domain.specs.BitsPart.{bits_laws}
use Rattle.value_domain.specs.RangePart.{range_laws}

-- a list with a member has a length above 0
pub has_length : (c : Constant) (xs : List Constant) → Has c xs → 0 < length xs
has_length c [] h = absurd h
has_length c (x ∷ xs) h = omega arith

first_has : (xs : List Constant) → 0 < length xs → (c : Constant) × Has c xs
first_has [] h = absurd (omega arith)
first_has (x ∷ xs) h = (x, inl refl)

pub longer : (xs ys : List Constant) → Subset xs ys → 0 < length xs → 0 < length ys
longer xs ys s h = let p = first_has xs h in has_length p.0 ys (s p.0 p.1)

-- ---- constants
vals_fit : (most : ℕ) (v : Vals) → FitsVals most v → FitsFinite before most (finite_of v)
vals_fit most Any f = tt
vals_fit most Nothing f = absurd f
vals_fit most (Among limit cs) f = (f.rising, f.few)

vals_apart : (most : ℕ) (a b : Vals) → FitsVals most a → FitsVals most b → finite_of a ≡ finite_of b → a ≡ b
vals_apart most Nothing b f g e = absurd f
vals_apart most a Nothing f g e = absurd g
vals_apart most Any Any f g e = refl
vals_apart most Any (Among limit cs) f g e = cc
vals_apart most (Among limit cs) Any f g e = cc
vals_apart most (Among limit xs) (Among other ys) f g e = let s : limit ≡ other = f.same ∙ sym g.same in let t : xs ≡ ys = cc in λ i. Among (s i) (t i)

cut : (b : Bool) (limit : ℕ) (xs : List Constant) → finite_of (cond b (Among limit xs) Any) ≡ cond b (Members xs) Anything
cut true limit xs = refl
cut false limit xs = refl

vals_same : (most : ℕ) (a b : Vals) → FitsVals most a → FitsVals most b → finite_of (vals_joined a b) ≡ finite_joined before most (finite_of a) (finite_of b)
vals_same most Nothing b f g = absurd f
vals_same most a Nothing f g = absurd g
vals_same most Any Any f g = refl
vals_same most Any (Among limit cs) f g = refl
vals_same most (Among limit cs) Any f g = refl
vals_same most (Among limit xs) (Among other ys) f g = subst (λ (n : ℕ). finite_of (vals_joined (Among limit xs) (Among other ys)) ≡ cond (leb (length (united before xs ys)) n) (Members (united before xs ys)) Anything) f.same (cut (leb (length (united before xs ys)) limit) limit (united before xs ys))

vals_join_fits : (most : ℕ) (a b : Vals) → FitsVals most a → FitsVals most b → FitsVals most (vals_joined a b)
vals_join_fits most Nothing b f g = absurd f
vals_join_fits most a Nothing f g = absurd g
vals_join_fits most Any Any f g = tt
vals_join_fits most Any (Among limit cs) f g = tt
vals_join_fits most (Among limit cs) Any f g = tt
vals_join_fits most (Among limit xs) (Among other ys) f g = by (leb (length (united before xs ys)) limit) refl
  where
    by : (b : Bool) → leb (length (united before xs ys)) limit ≡ b → FitsVals most (cond b (Among limit (united before xs ys)) Any)
    by true e = record { same = f.same; rising = united_ascends before constant_order xs ys g.rising; few = subst (λ (n : ℕ). length (united before xs ys) ≤ n) f.same (leb-true (length (united before xs ys)) limit e); some = longer ys (united before xs ys) (united_right before constant_order xs ys) g.some }
    by false e = tt

pub vals_laws : (most : ℕ) → PartLaws (FitsVals most) (most + 1) (λ v. finite_rank most (finite_of v)) vals_below vals_joined
vals_laws most = viewed_laws finite_of (FitsVals most) vals_joined (finite_laws before constant_order most) (vals_fit most) (vals_apart most) (vals_same most) (vals_join_fits most)

-- ---- the whole
hull_full : (ts : List ℤ) (r s : Range) → FitsRange ts r → FitsRange ts s → is_bare (hull r s) ≡ false
hull_full ts r s f g = let h : (hull r s).low ≤ℤ (hull r s).high = omega (arith, ints, clamps, f.full, g.full) in not_less _ _ h
  where
    not_less : (a b : ℤ) → a ≤ℤ b → int_lt b a ≡ false
    not_less a b h = grind (arith, ints)

pub abs_apart : (a b : AbsVal) → parts_of a ≡ parts_of b → a ≡ b
abs_apart a b e = λ i. record { vals = (e i).first; bits = (e i).second; range = (e i).third }

abs_same : (a b : AbsVal) → parts_of (abs_val_joined a b) ≡ parts_joined vals_joined bits_joined hull is_bare (parts_of a) (parts_of b)
abs_same a b = by (is_bare a.range) (is_bare b.range)
  where
    by : (p q : Bool) → parts_of (cond p b (cond q a (record { vals = vals_joined a.vals b.vals; bits = bits_joined a.bits b.bits; range = hull a.range b.range }))) ≡ cond p (parts_of b) (cond q (parts_of a) (record { first = vals_joined a.vals b.vals; second = bits_joined a.bits b.bits; third = hull a.range b.range }))
    by true q = refl
    by false true = refl
    by false false = refl

module _ (most : ℕ) (ts : List ℤ) where
  whole : PartLaws (FitsParts (parts_of none_val) (FitsVals most) FitsBits (FitsRange ts) is_bare) (height_with most ts) (parts_rank (height_with most ts) (λ v. finite_rank most (finite_of v)) bits_rank (outside ts) is_bare) (parts_below vals_below bits_below range_below is_bare) (parts_joined vals_joined bits_joined hull is_bare)
  whole = lifted_laws is_bare (parts_of none_val) (vals_laws most) bits_laws (range_laws ts) (hull_full ts)

  pub laws_with : PartLaws (FitsWith most ts) (height_with most ts) (rank_with most ts) abs_val_below abs_val_joined
  laws_with = viewed_laws parts_of (FitsWith most ts) abs_val_joined whole (λ y f. f) (λ a b f g e. abs_apart a b e) (λ a b f g. abs_same a b)
      (λ a b f g. subst (FitsParts (parts_of none_val) (FitsVals most) FitsBits (FitsRange ts) is_bare) (sym (abs_same a b)) (whole.join_fits _ _ f g))

falls_less : {X : Type 0} (x y : X) (m n : ℕ) → (x ≡ y) ⊎ (m < n) → x ≢ y → m < n
falls_less x y m n (inl e) h = absurd (h e)
falls_less x y m n (inr l) h = l

at_kind : (k : List ℕ) → PartLaws (FitsAbsVal k) (abs_val_height k) (abs_val_rank k) abs_val_below abs_val_joined
at_kind k = laws_with (limit_in k) (thresholds_in k)

pub abs_val_laws : LatticeLaws FitsAbsVal abs_val_height abs_val_rank abs_val_below abs_val_joined
abs_val_laws = record {
  reflexive = λ k. (at_kind k).reflexive;
  antisymmetric = λ k. (at_kind k).antisymmetric;
  transitive = λ k. (at_kind k).transitive;
  join_fits = λ k. (at_kind k).join_fits;
  above_left = λ k. (at_kind k).above_left;
  above_right = λ k. (at_kind k).above_right;
  least_above = λ k. (at_kind k).least_above;
  rank_bounded = λ k. (at_kind k).rank_bounded;
  rank_falls = λ k x y f g h. falls_less x y _ _ ((at_kind k).rank_falls x y f g h);
}
