-- Pairs of values of two lattices.
use Rattle.std.specs.Prelude.{◌≡◌, ◌≢◌, ℕ, ◌+◌, ◌<◌, ◌⊎◌, ◌&&◌, Bool, true, List, [], ◌∷◌, take, drop}
use Rattle.std.proofs.Common.{inl, inr, arith, ap, subst}
use Rattle.std.proofs.lemmas.Bool.{cases_Bool}
use Rattle.fix_engine.specs.declared.pair.Pair.{Pair}
use Rattle.fix_engine.specs.Bools.{and_left, and_right, both}
use Rattle.fix_engine.specs.Lattice.{LatticeLaws}

-- the kind begins with the length of the first's kind
abbrev pub FitsPair : {A B : Type 0} → (List ℕ → A → Type 0) → (List ℕ → B → Type 0) → List ℕ → Pair A B → Type 0
FitsPair fits_a fits_b [] p = ⊥
FitsPair fits_a fits_b (n ∷ k) p = fits_a (take n k) p.first × fits_b (drop n k) p.second

abbrev pub pair_height : (List ℕ → ℕ) → (List ℕ → ℕ) → List ℕ → ℕ
pair_height height_a height_b [] = 0
pair_height height_a height_b (n ∷ k) = height_a (take n k) + height_b (drop n k)

abbrev pub pair_rank : {A B : Type 0} → (List ℕ → A → ℕ) → (List ℕ → B → ℕ) → List ℕ → Pair A B → ℕ
pair_rank rank_a rank_b [] p = 0
pair_rank rank_a rank_b (n ∷ k) p = rank_a (take n k) p.first + rank_b (drop n k) p.second

abbrev pub pair_below : {A B : Type 0} → (A → A → Bool) → (B → B → Bool) → Pair A B → Pair A B → Bool
pair_below below_a below_b p q = below_a p.first q.first && below_b p.second q.second

abbrev pub pair_joined : {A B : Type 0} → (A → A → A) → (B → B → B) → Pair A B → Pair A B → Pair A B
pair_joined joined_a joined_b p q = record { first = joined_a p.first q.first; second = joined_b p.second q.second }

-- a value below another is the same, or ranks higher
same_or_falls : {V : Type 0} {fits : List ℕ → V → Type 0} {height : List ℕ → ℕ} {rank : List ℕ → V → ℕ} {below : V → V → Bool} {joined : V → V → V}
    (lat : LatticeLaws fits height rank below joined) (k : List ℕ) (x y : V) → fits k x → fits k y → below x y ≡ true → (x ≡ y) ⊎ (rank k y < rank k x)
same_or_falls {V} {fits} {height} {rank} {below} lat k x y f h p =
    elim (cases_Bool (below y x)) [
      | inl back ↦ inl (lat.antisymmetric k x y f h p back)
      | inr apart ↦ inr (lat.rank_falls k x y f h p (λ same. let P : V → Type 0 = λ v. below v x ≡ true in let b = subst P same (lat.reflexive k x f) in cc (b, apart)))
    ]

module _ {A B : Type 0} {fits_a : List ℕ → A → Type 0} {height_a : List ℕ → ℕ} {rank_a : List ℕ → A → ℕ} {below_a : A → A → Bool} {joined_a : A → A → A}
    {fits_b : List ℕ → B → Type 0} {height_b : List ℕ → ℕ} {rank_b : List ℕ → B → ℕ} {below_b : B → B → Bool} {joined_b : B → B → B}
    (la : LatticeLaws fits_a height_a rank_a below_a joined_a) (lb : LatticeLaws fits_b height_b rank_b below_b joined_b) (i j : List ℕ) where
  transitive : (p q r : Pair A B) → fits_a i p.first → fits_b j p.second → fits_a i q.first → fits_b j q.second → fits_a i r.first → fits_b j r.second
      → pair_below below_a below_b p q ≡ true → pair_below below_a below_b q r ≡ true → pair_below below_a below_b p r ≡ true
  transitive p q r pa pb qa qb ra rb u v =
      both (below_a p.first r.first) (below_b p.second r.second)
      (la.transitive i p.first q.first r.first pa qa ra (and_left (below_a p.first q.first) (below_b p.second q.second) u) (and_left (below_a q.first r.first) (below_b q.second r.second) v))
      (lb.transitive j p.second q.second r.second pb qb rb (and_right (below_a p.first q.first) (below_b p.second q.second) u) (and_right (below_a q.first r.first) (below_b q.second r.second) v))

  antisymmetric : (p q : Pair A B) → fits_a i p.first → fits_b j p.second → fits_a i q.first → fits_b j q.second
      → pair_below below_a below_b p q ≡ true → pair_below below_a below_b q p ≡ true → p ≡ q
  antisymmetric p q pa pb qa qb u v =
      let a = la.antisymmetric i p.first q.first pa qa (and_left (below_a p.first q.first) (below_b p.second q.second) u) (and_left (below_a q.first p.first) (below_b q.second p.second) v) in
      let b = lb.antisymmetric j p.second q.second pb qb (and_right (below_a p.first q.first) (below_b p.second q.second) u) (and_right (below_a q.first p.first) (below_b q.second p.second) v) in
      λ t. record { first = a t; second = b t }

  least_above : (p q r : Pair A B) → fits_a i p.first → fits_b j p.second → fits_a i q.first → fits_b j q.second → fits_a i r.first → fits_b j r.second
      → pair_below below_a below_b p r ≡ true → pair_below below_a below_b q r ≡ true → pair_below below_a below_b (pair_joined joined_a joined_b p q) r ≡ true
  least_above p q r pa pb qa qb ra rb u v =
      both (below_a (joined_a p.first q.first) r.first) (below_b (joined_b p.second q.second) r.second)
      (la.least_above i p.first q.first r.first pa qa ra (and_left (below_a p.first r.first) (below_b p.second r.second) u) (and_left (below_a q.first r.first) (below_b q.second r.second) v))
      (lb.least_above j p.second q.second r.second pb qb rb (and_right (below_a p.first r.first) (below_b p.second r.second) u) (and_right (below_a q.first r.first) (below_b q.second r.second) v))

  rank_falls : (p q : Pair A B) → fits_a i p.first → fits_b j p.second → fits_a i q.first → fits_b j q.second
      → pair_below below_a below_b p q ≡ true → p ≢ q → rank_a i q.first + rank_b j q.second < rank_a i p.first + rank_b j p.second
  rank_falls p q pa pb qa qb u apart =
      elim (same_or_falls la i p.first q.first pa qa (and_left (below_a p.first q.first) (below_b p.second q.second) u)) [
        | inl a ↦
            elim (same_or_falls lb j p.second q.second pb qb (and_right (below_a p.first q.first) (below_b p.second q.second) u)) [
              | inl b ↦ absurd (apart (λ t. record { first = a t; second = b t }))
              | inr falls ↦ let same = ap (rank_a i) a in omega (arith, same, falls)
            ]
        | inr falls ↦
            elim (same_or_falls lb j p.second q.second pb qb (and_right (below_a p.first q.first) (below_b p.second q.second) u)) [
              | inl b ↦ let same = ap (rank_b j) b in omega (arith, same, falls)
              | inr more ↦ omega (arith, more, falls)
            ]
      ]

-- pairs of values of two lattices are a lattice
pub pair_laws : {A B : Type 0} {fits_a : List ℕ → A → Type 0} {height_a : List ℕ → ℕ} {rank_a : List ℕ → A → ℕ} {below_a : A → A → Bool} {joined_a : A → A → A}
    {fits_b : List ℕ → B → Type 0} {height_b : List ℕ → ℕ} {rank_b : List ℕ → B → ℕ} {below_b : B → B → Bool} {joined_b : B → B → B}
    → LatticeLaws fits_a height_a rank_a below_a joined_a → LatticeLaws fits_b height_b rank_b below_b joined_b
    → LatticeLaws (FitsPair fits_a fits_b) (pair_height height_a height_b) (pair_rank rank_a rank_b) (pair_below below_a below_b) (pair_joined joined_a joined_b)
pair_laws {A} {B} {fits_a} {height_a} {rank_a} {below_a} {joined_a} {fits_b} {height_b} {rank_b} {below_b} {joined_b} la lb = record {
  reflexive = elim [ [] ↦ λ p f. absurd f | ◌∷◌ n k ↦ λ p f. both (below_a p.first p.first) (below_b p.second p.second) (la.reflexive (take n k) p.first f.0) (lb.reflexive (drop n k) p.second f.1) ];
  antisymmetric = elim [ [] ↦ λ p q f. absurd f | ◌∷◌ n k ↦ λ p q f h u v. antisymmetric la lb (take n k) (drop n k) p q f.0 f.1 h.0 h.1 u v ];
  transitive = elim [ [] ↦ λ p q r f. absurd f | ◌∷◌ n k ↦ λ p q r f h g u v. transitive la lb (take n k) (drop n k) p q r f.0 f.1 h.0 h.1 g.0 g.1 u v ];
  join_fits = elim [ [] ↦ λ p q f. absurd f | ◌∷◌ n k ↦ λ p q f h. (la.join_fits (take n k) p.first q.first f.0 h.0, lb.join_fits (drop n k) p.second q.second f.1 h.1) ];
  above_left = elim [ [] ↦ λ p q f. absurd f | ◌∷◌ n k ↦ λ p q f h. both (below_a p.first (joined_a p.first q.first)) (below_b p.second (joined_b p.second q.second)) (la.above_left (take n k) p.first q.first f.0 h.0) (lb.above_left (drop n k) p.second q.second f.1 h.1) ];
  above_right = elim [ [] ↦ λ p q f. absurd f | ◌∷◌ n k ↦ λ p q f h. both (below_a q.first (joined_a p.first q.first)) (below_b q.second (joined_b p.second q.second)) (la.above_right (take n k) p.first q.first f.0 h.0) (lb.above_right (drop n k) p.second q.second f.1 h.1) ];
  least_above = elim [ [] ↦ λ p q r f. absurd f | ◌∷◌ n k ↦ λ p q r f h g u v. least_above la lb (take n k) (drop n k) p q r f.0 f.1 h.0 h.1 g.0 g.1 u v ];
  rank_bounded = elim [ [] ↦ λ p f. absurd f | ◌∷◌ n k ↦ λ p f. let a = la.rank_bounded (take n k) p.first f.0 in let b = lb.rank_bounded (drop n k) p.second f.1 in omega (arith, a, b) ];
  rank_falls = elim [ [] ↦ λ p q f. absurd f | ◌∷◌ n k ↦ λ p q f h u apart. rank_falls la lb (take n k) (drop n k) p q f.0 f.1 h.0 h.1 u apart ];
}
