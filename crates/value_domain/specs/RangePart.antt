-- The laws of intervals with ends in the thresholds.
use Rattle.std.proofs.Common.{◌≡◌, ◌<◌, ◌≤◌, ◌⊎◌, inl, inr, ℤ, ◌≤ℤ◌, ◌<ℤ◌, int_lt, Bool, true, false, ◌&&◌, ◌||◌, refl, subst, arith, List, [], ◌∷◌, length}
use Rattle.std.proofs.lemmas.Int.{ints, clamps, by_lt_z}
use Rattle.fix_engine.specs.Solving.{one_if}
use Rattle.value_domain.specs.declared.range.Range.{Range}
use Rattle.lattice_parts.specs.Sets.{Has}
use Rattle.lattice_parts.specs.Parts.{PartLaws}
use Rattle.value_domain.specs.Ranges.{Within, hull, FitsRange, range_below, outside}
use Rattle.value_domain.specs.FitLemmas.{le_tells, picked_min, picked_max}

two : (a b : Bool) → (a && b) ≡ true → (a ≡ true) × (b ≡ true)
two true true h = (refl, refl)
two true false h = cc
two false b h = cc

pub within_is : (r s : Range) → range_below r s ≡ true → Within r s
within_is r s h = let e = two _ _ h in record { low = (le_tells _ _).is_so e.0; high = (le_tells _ _).is_so e.1 }

pub is_within : (r s : Range) → Within r s → range_below r s ≡ true
is_within r s w = rw ((le_tells s.low r.low).so_is w.low, (le_tells r.high s.high).so_is w.high) refl

out_le : (a b c d : ℤ) (t : ℤ) → c ≤ℤ a → b ≤ℤ d → one_if (int_lt t c || int_lt d t) ≤ one_if (int_lt t a || int_lt b t)
out_le a b c d t h k = by (int_lt t c) (int_lt d t) (int_lt t a) (int_lt b t) refl refl refl refl
  where
    by : (p q u v : Bool) → int_lt t c ≡ p → int_lt d t ≡ q → int_lt t a ≡ u → int_lt b t ≡ v → one_if (p || q) ≤ one_if (u || v)
    by p q true v e f g i = one_le (p || q)
      where
        one_le : (x : Bool) → one_if x ≤ 1
        one_le true = omega arith
        one_le false = omega arith
    by p q false true e f g i = one_le (p || q)
      where
        one_le : (x : Bool) → one_if x ≤ 1
        one_le true = omega arith
        one_le false = omega arith
    by true q false false e f g i = absurd (clash1 e g)
      where
        clash1 : int_lt t c ≡ true → int_lt t a ≡ false → ⊥
        clash1 e g = let x : t <ℤ c = grind (arith, ints) in let y : a ≤ℤ t = grind (arith, ints) in omega (arith, ints)
    by false true false false e f g i = absurd (clash2 f i)
      where
        clash2 : int_lt d t ≡ true → int_lt b t ≡ false → ⊥
        clash2 f i = let x : d <ℤ t = grind (arith, ints) in let y : t ≤ℤ b = grind (arith, ints) in omega (arith, ints)
    by false false false false e f g i = omega arith

out_less_low : (a b c d : ℤ) → c <ℤ a → c ≤ℤ d → one_if (int_lt c c || int_lt d c) < one_if (int_lt c a || int_lt b c)
out_less_low a b c d h k =
    let p : int_lt c c ≡ false = grind (arith, ints) in
    let q : int_lt d c ≡ false = grind (arith, ints) in
    let u : int_lt c a ≡ true = grind (arith, ints) in
    rw (p, q, u) (omega arith)

out_less_high : (a b c d : ℤ) → b <ℤ d → c ≤ℤ d → one_if (int_lt d c || int_lt d d) < one_if (int_lt d a || int_lt b d)
out_less_high a b c d h k =
    let p : int_lt d c ≡ false = grind (arith, ints) in
    let q : int_lt d d ≡ false = grind (arith, ints) in
    let u : int_lt b d ≡ true = grind (arith, ints) in
    rw (p, q, u) (by (int_lt d a))
  where
    by : (x : Bool) → one_if false < one_if (x || true)
    by true = omega arith
    by false = omega arith

outside_le : (ts : List ℤ) (r s : Range) → Within r s → outside ts s ≤ outside ts r
outside_le [] r s w = omega arith
outside_le (t ∷ ts) r s w = let rest = outside_le ts r s w in let here = out_le r.low r.high s.low s.high t w.low w.high in omega (arith, rest, here)

outside_less_low : (ts : List ℤ) (r s : Range) → Within r s → s.low <ℤ r.low → s.low ≤ℤ s.high → Has s.low ts → outside ts s < outside ts r
outside_less_low [] r s w h f m = absurd m
outside_less_low (t ∷ ts) r s w h f (inl e) =
    let rest = outside_le ts r s w in
    let here : one_if (int_lt t s.low || int_lt s.high t) < one_if (int_lt t r.low || int_lt r.high t) = subst (λ (x : ℤ). one_if (int_lt x s.low || int_lt s.high x) < one_if (int_lt x r.low || int_lt r.high x)) e (out_less_low r.low r.high s.low s.high h f) in
    omega (arith, rest, here)
outside_less_low (t ∷ ts) r s w h f (inr m) = let rest = outside_less_low ts r s w h f m in let here = out_le r.low r.high s.low s.high t w.low w.high in omega (arith, rest, here)

outside_less_high : (ts : List ℤ) (r s : Range) → Within r s → r.high <ℤ s.high → s.low ≤ℤ s.high → Has s.high ts → outside ts s < outside ts r
outside_less_high [] r s w h f m = absurd m
outside_less_high (t ∷ ts) r s w h f (inl e) =
    let rest = outside_le ts r s w in
    let here : one_if (int_lt t s.low || int_lt s.high t) < one_if (int_lt t r.low || int_lt r.high t) = subst (λ (x : ℤ). one_if (int_lt x s.low || int_lt s.high x) < one_if (int_lt x r.low || int_lt r.high x)) e (out_less_high r.low r.high s.low s.high h f) in
    omega (arith, rest, here)
outside_less_high (t ∷ ts) r s w h f (inr m) = let rest = outside_less_high ts r s w h f m in let here = out_le r.low r.high s.low s.high t w.low w.high in omega (arith, rest, here)

one_le : (b : Bool) → one_if b ≤ 1
one_le true = omega arith
one_le false = omega arith

outside_bound : (ts : List ℤ) (r : Range) → outside ts r ≤ length ts
outside_bound [] r = omega arith
outside_bound (t ∷ ts) r = let rest = outside_bound ts r in let here = one_le (int_lt t r.low || int_lt r.high t) in omega (arith, rest, here)

same_ends : (r s : Range) → Within r s → r.low ≤ℤ s.low → s.high ≤ℤ r.high → r ≡ s
same_ends r s w h k = let e : r.low ≡ s.low = omega (arith, ints) in let f : r.high ≡ s.high = omega (arith, ints) in λ i. record { low = e i; high = f i }

range_falls : (ts : List ℤ) (r s : Range) → FitsRange ts s → Within r s → (r ≡ s) ⊎ (outside ts s < outside ts r)
range_falls ts r s f w = by_lt_z s.low r.low (λ h. inr (outside_less_low ts r s w h f.full f.low)) (λ h. by_lt_z r.high s.high (λ k. inr (outside_less_high ts r s w k f.full f.high)) (λ k. inl (same_ends r s w h k)))

pub range_laws : (ts : List ℤ) → PartLaws (FitsRange ts) (length ts) (outside ts) range_below hull
range_laws ts = record {
  reflexive = λ r f. is_within r r (record { low = omega (arith, ints); high = omega (arith, ints) });
  antisymmetric = λ r s f g h k. let v = within_is r s h in let w = within_is s r k in same_ends r s v w.low w.high;
  transitive = λ r s t f g e h k. let v = within_is r s h in let w = within_is s t k in is_within r t (record { low = omega (arith, ints, v.low, w.low); high = omega (arith, ints, v.high, w.high) });
  join_fits = λ r s f g. record { low = picked_min r.low s.low (λ (x : ℤ). Has x ts) f.low g.low; high = picked_max r.high s.high (λ (x : ℤ). Has x ts) f.high g.high; full = omega (arith, ints, clamps, f.full, g.full) };
  above_left = λ r s f g. is_within r (hull r s) (record { low = omega (arith, ints, clamps); high = omega (arith, ints, clamps) });
  above_right = λ r s f g. is_within s (hull r s) (record { low = omega (arith, ints, clamps); high = omega (arith, ints, clamps) });
  least_above = λ r s t f g e h k. let v = within_is r t h in let w = within_is s t k in is_within (hull r s) t (record { low = omega (arith, ints, clamps, v.low, w.low); high = omega (arith, ints, clamps, v.high, w.high) });
  rank_bounded = λ r f. outside_bound ts r;
  rank_falls = λ r s f g h. range_falls ts r s g (within_is r s h);
}
