-- The laws of finite sets or any.
use Rattle.std.proofs.Common.{cond, ◌≡◌, ℕ, ◌+◌, ◌-◌, ◌<◌, ◌≤◌, ◌⊎◌, inl, inr, Bool, true, false, refl, ap, subst, arith, List, length, leb}
use Rattle.std.proofs.lemmas.Bool.{leb-true}
use Rattle.lattice_parts.specs.Sets.{IsOrder, Ascending, Subset, united}
use Rattle.lattice_parts.specs.Parts.{PartLaws}
use Rattle.lattice_parts.specs.Finite.{Finite, Anything, Members, FitsFinite, finite_below, capped, finite_joined, finite_rank}
use Rattle.lattice_parts.specs.SetLemmas.{same_or_shorter, same_set, united_ascends, united_left, united_right, united_least, subset_is, is_subset}

pub cap_cases : {X : Type 0} (most : ℕ) (xs : List X) (P : Finite X → Type 0) → (length xs ≤ most → P (Members xs)) → (most < length xs → P Anything) → P (capped most xs)
cap_cases most xs P h k = by (leb (length xs) most) refl
  where
    by : (b : Bool) → leb (length xs) most ≡ b → P (cond b (Members xs) Anything)
    by true e = h (leb-true (length xs) most e)
    by false e = k (grind (arith, e))

below_any : {X : Type 0} (lt : X → X → Bool) (x : Finite X) → finite_below lt x Anything ≡ true
below_any lt Anything = refl
below_any lt (Members xs) = refl

capped_above : {X : Type 0} (lt : X → X → Bool) → IsOrder lt → (most : ℕ) (xs ys : List X) → Subset xs ys → finite_below lt (Members xs) (capped most ys) ≡ true
capped_above lt o most xs ys s = cap_cases most ys (λ f. finite_below lt (Members xs) f ≡ true) (λ _. is_subset lt o xs ys s) (λ _. refl)

-- the cut: a set that is cut to any is not below a set that fits
capped_below : {X : Type 0} (lt : X → X → Bool) → IsOrder lt → (most : ℕ) (xs : List X) (z : Finite X) → Ascending lt xs → FitsFinite lt most z → ((zs : List X) → z ≡ Members zs → Subset xs zs) → finite_below lt (capped most xs) z ≡ true
capped_below lt o most xs Anything a f s = below_any lt (capped most xs)
capped_below lt o most xs (Members zs) a f s = cap_cases most xs (λ g. finite_below lt g (Members zs) ≡ true) (λ _. is_subset lt o xs zs (s zs refl)) (λ m. absurd (shorter (same_or_shorter lt o xs zs a f.0 (s zs refl)) m))
  where
    shorter : (xs ≡ zs) ⊎ (length xs < length zs) → most < length xs → ⊥
    shorter (inl e) m = let g : length xs ≡ length zs = ap length e in omega (arith, g, f.1)
    shorter (inr h) m = omega (arith, f.1)

module _ {X : Type 0} (lt : X → X → Bool) (o : IsOrder lt) (most : ℕ) where
  F : Finite X → Type 0
  F x = FitsFinite lt most x

  reflexive : (x : Finite X) → FitsFinite lt most x → finite_below lt x x ≡ true
  reflexive Anything f = refl
  reflexive (Members xs) f = is_subset lt o xs xs (λ c h. h)

  antisymmetric : (x y : Finite X) → FitsFinite lt most x → FitsFinite lt most y → finite_below lt x y ≡ true → finite_below lt y x ≡ true → x ≡ y
  antisymmetric Anything Anything f g h k = refl
  antisymmetric Anything (Members ys) f g h k = cc
  antisymmetric (Members xs) Anything f g h k = cc
  antisymmetric (Members xs) (Members ys) f g h k = ap Members (same_set lt o xs ys f.0 g.0 (subset_is lt o xs ys h) (subset_is lt o ys xs k))

  transitive : (x y z : Finite X) → FitsFinite lt most x → FitsFinite lt most y → FitsFinite lt most z → finite_below lt x y ≡ true → finite_below lt y z ≡ true → finite_below lt x z ≡ true
  transitive x y Anything f g e h k = below_any lt x
  transitive x Anything (Members zs) f g e h k = cc
  transitive Anything (Members ys) (Members zs) f g e h k = cc
  transitive (Members xs) (Members ys) (Members zs) f g e h k = is_subset lt o xs zs (λ c m. subset_is lt o ys zs k c (subset_is lt o xs ys h c m))

  join_fits : (x y : Finite X) → FitsFinite lt most x → FitsFinite lt most y → FitsFinite lt most (finite_joined lt most x y)
  join_fits Anything y f g = tt
  join_fits (Members xs) Anything f g = tt
  join_fits (Members xs) (Members ys) f g = cap_cases most (united lt xs ys) (FitsFinite lt most) (λ h. (united_ascends lt o xs ys g.0, h)) (λ _. tt)

  above_left : (x y : Finite X) → FitsFinite lt most x → FitsFinite lt most y → finite_below lt x (finite_joined lt most x y) ≡ true
  above_left Anything y f g = refl
  above_left (Members xs) Anything f g = refl
  above_left (Members xs) (Members ys) f g = capped_above lt o most xs (united lt xs ys) (united_left lt o xs ys)

  above_right : (x y : Finite X) → FitsFinite lt most x → FitsFinite lt most y → finite_below lt y (finite_joined lt most x y) ≡ true
  above_right Anything y f g = below_any lt y
  above_right (Members xs) Anything f g = refl
  above_right (Members xs) (Members ys) f g = capped_above lt o most ys (united lt xs ys) (united_right lt o xs ys)

  least_above : (x y z : Finite X) → FitsFinite lt most x → FitsFinite lt most y → FitsFinite lt most z → finite_below lt x z ≡ true → finite_below lt y z ≡ true → finite_below lt (finite_joined lt most x y) z ≡ true
  least_above x y Anything f g e h k = below_any lt (finite_joined lt most x y)
  least_above Anything y (Members zs) f g e h k = cc
  least_above (Members xs) Anything (Members zs) f g e h k = cc
  least_above (Members xs) (Members ys) (Members zs) f g e h k =
      capped_below lt o most (united lt xs ys) (Members zs) (united_ascends lt o xs ys g.0) e (λ ws s. let same : zs ≡ ws = cc in subst (Subset (united lt xs ys)) same (united_least lt o xs ys zs (subset_is lt o xs zs h) (subset_is lt o ys zs k)))

  rank_bounded : (x : Finite X) → FitsFinite lt most x → finite_rank most x ≤ most + 1
  rank_bounded Anything f = omega arith
  rank_bounded (Members xs) f = omega arith

  rank_falls : (x y : Finite X) → FitsFinite lt most x → FitsFinite lt most y → finite_below lt x y ≡ true → (x ≡ y) ⊎ (finite_rank most y < finite_rank most x)
  rank_falls Anything Anything f g h = inl refl
  rank_falls Anything (Members ys) f g h = cc
  rank_falls (Members xs) Anything f g h = inr (omega (arith, f.1))
  rank_falls (Members xs) (Members ys) f g h = by (same_or_shorter lt o xs ys f.0 g.0 (subset_is lt o xs ys h)) g.1
    where
      by : (xs ≡ ys) ⊎ (length xs < length ys) → length ys ≤ most → (Members xs ≡ Members ys) ⊎ (most + 1 - length ys < most + 1 - length xs)
      by (inl e) m = inl (ap Members e)
      by (inr l) m = inr (omega arith)

  pub finite_laws : PartLaws (FitsFinite lt most) (most + 1) (finite_rank most) (finite_below lt) (finite_joined lt most)
  finite_laws = record { reflexive = reflexive; antisymmetric = antisymmetric; transitive = transitive; join_fits = join_fits; above_left = above_left; above_right = above_right; least_above = least_above; rank_bounded = rank_bounded; rank_falls = rank_falls }
