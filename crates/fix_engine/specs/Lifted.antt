-- A lattice with one more value, below all others.
use Rattle.std.specs.Prelude.{◌≡◌, ◌≢◌, ℕ, ◌+◌, ◌<◌, ◌≤◌, Bool, true, false, List, refl}
use Rattle.std.proofs.Common.{arith, ap}
use Rattle.fix_engine.specs.declared.lifted.Lifted.{Lifted}
use Rattle.fix_engine.specs.declared.lifted.Lifted.TheVariants.{NotReached, Reached}
use Rattle.fix_engine.specs.Lattice.{LatticeLaws}

abbrev pub FitsLifted : {V : Type 0} → (List ℕ → V → Type 0) → List ℕ → Lifted V → Type 0
FitsLifted fits k NotReached = Unit {0}
FitsLifted fits k (Reached x) = fits k x

abbrev pub lifted_height : (List ℕ → ℕ) → List ℕ → ℕ
lifted_height height k = height k + 1

abbrev pub lifted_rank : {V : Type 0} → (List ℕ → ℕ) → (List ℕ → V → ℕ) → List ℕ → Lifted V → ℕ
lifted_rank height rank k NotReached = height k + 1
lifted_rank height rank k (Reached x) = rank k x

abbrev pub lifted_below : {V : Type 0} → (V → V → Bool) → Lifted V → Lifted V → Bool
lifted_below below NotReached y = true
lifted_below below (Reached x) NotReached = false
lifted_below below (Reached x) (Reached y) = below x y

abbrev pub lifted_joined : {V : Type 0} → (V → V → V) → Lifted V → Lifted V → Lifted V
lifted_joined joined NotReached y = y
lifted_joined joined (Reached x) NotReached = Reached x
lifted_joined joined (Reached x) (Reached y) = Reached (joined x y)

module _ {V : Type 0} {fits : List ℕ → V → Type 0} {height : List ℕ → ℕ} {rank : List ℕ → V → ℕ} {below : V → V → Bool} {joined : V → V → V}
    (lat : LatticeLaws fits height rank below joined) (k : List ℕ) where
  reflexive : (x : Lifted V) → FitsLifted fits k x → lifted_below below x x ≡ true
  reflexive NotReached f = refl
  reflexive (Reached x) f = lat.reflexive k x f

  antisymmetric : (x y : Lifted V) → FitsLifted fits k x → FitsLifted fits k y → lifted_below below x y ≡ true → lifted_below below y x ≡ true → x ≡ y
  antisymmetric NotReached NotReached f h p q = refl
  antisymmetric NotReached (Reached y) f h p q = cc
  antisymmetric (Reached x) NotReached f h p q = cc
  antisymmetric (Reached x) (Reached y) f h p q = ap (λ (v : V). Reached v) (lat.antisymmetric k x y f h p q)

  transitive : (x y z : Lifted V) → FitsLifted fits k x → FitsLifted fits k y → FitsLifted fits k z → lifted_below below x y ≡ true → lifted_below below y z ≡ true → lifted_below below x z ≡ true
  transitive NotReached y z f h i p q = refl
  transitive (Reached x) NotReached z f h i p q = cc
  transitive (Reached x) (Reached y) NotReached f h i p q = cc
  transitive (Reached x) (Reached y) (Reached z) f h i p q = lat.transitive k x y z f h i p q

  join_fits : (x y : Lifted V) → FitsLifted fits k x → FitsLifted fits k y → FitsLifted fits k (lifted_joined joined x y)
  join_fits NotReached y f h = h
  join_fits (Reached x) NotReached f h = f
  join_fits (Reached x) (Reached y) f h = lat.join_fits k x y f h

  above_left : (x y : Lifted V) → FitsLifted fits k x → FitsLifted fits k y → lifted_below below x (lifted_joined joined x y) ≡ true
  above_left NotReached y f h = refl
  above_left (Reached x) NotReached f h = lat.reflexive k x f
  above_left (Reached x) (Reached y) f h = lat.above_left k x y f h

  above_right : (x y : Lifted V) → FitsLifted fits k x → FitsLifted fits k y → lifted_below below y (lifted_joined joined x y) ≡ true
  above_right NotReached y f h = reflexive y h
  above_right (Reached x) NotReached f h = refl
  above_right (Reached x) (Reached y) f h = lat.above_right k x y f h

  least_above : (x y z : Lifted V) → FitsLifted fits k x → FitsLifted fits k y → FitsLifted fits k z → lifted_below below x z ≡ true → lifted_below below y z ≡ true → lifted_below below (lifted_joined joined x y) z ≡ true
  least_above NotReached y z f h i p q = q
  least_above (Reached x) NotReached z f h i p q = p
  least_above (Reached x) (Reached y) NotReached f h i p q = cc
  least_above (Reached x) (Reached y) (Reached z) f h i p q = lat.least_above k x y z f h i p q

  rank_bounded : (x : Lifted V) → FitsLifted fits k x → lifted_rank height rank k x ≤ height k + 1
  rank_bounded NotReached f = omega arith
  rank_bounded (Reached x) f = let h = lat.rank_bounded k x f in omega (arith, h)

  rank_falls : (x y : Lifted V) → FitsLifted fits k x → FitsLifted fits k y → lifted_below below x y ≡ true → x ≢ y → lifted_rank height rank k y < lifted_rank height rank k x
  rank_falls NotReached NotReached f h p q = absurd (q refl)
  rank_falls NotReached (Reached y) f h p q = let b = lat.rank_bounded k y h in omega (arith, b)
  rank_falls (Reached x) NotReached f h p q = cc
  rank_falls (Reached x) (Reached y) f h p q = lat.rank_falls k x y f h p (λ same. q (ap (λ (v : V). Reached v) same))

-- a lattice with one more value below is a lattice
pub lifted_laws : {V : Type 0} {fits : List ℕ → V → Type 0} {height : List ℕ → ℕ} {rank : List ℕ → V → ℕ} {below : V → V → Bool} {joined : V → V → V}
    → LatticeLaws fits height rank below joined → LatticeLaws (FitsLifted fits) (lifted_height height) (lifted_rank height rank) (lifted_below below) (lifted_joined joined)
lifted_laws lat = record {
  reflexive = λ k x f. reflexive lat k x f;
  antisymmetric = λ k x y f h p q. antisymmetric lat k x y f h p q;
  transitive = λ k x y z f h i p q. transitive lat k x y z f h i p q;
  join_fits = λ k x y f h. join_fits lat k x y f h;
  above_left = λ k x y f h. above_left lat k x y f h;
  above_right = λ k x y f h. above_right lat k x y f h;
  least_above = λ k x y z f h i p q. least_above lat k x y z f h i p q;
  rank_bounded = λ k x f. rank_bounded lat k x f;
  rank_falls = λ k x y f h p q. rank_falls lat k x y f h p q;
}
