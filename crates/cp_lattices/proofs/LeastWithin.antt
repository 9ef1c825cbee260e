-- The values of the least solution are in each set that has the start values and what flows, and with two values their join: each
-- value is the join of its start value and of what flows into its node.
use Rattle.std.proofs.Common.{◌≡◌, ℕ, zero, suc, ◌<◌, ◌≤◌, ◌⊎◌, inl, inr, eqb, Bool, true, false, cond, List, length, map, refl, sym, ◌∙◌, ap, subst, arith}
use Rattle.std.specs.List.{range_with_len}
use Rattle.std.proofs.lemmas.Bool.{eqb-true, eq-eqb, cases_lt}
use Rattle.std.proofs.lemmas.List.FromFn.{length-map-range_with_len, get_or-map-range_with_len}
use Rattle.fix_engine.specs.Lattice.{LatticeLaws}
use Rattle.fix_engine.specs.Least.{Equations, FlowLaws, IsSolution, IsLeast, value_at}

-- what flows along an edge
abbrev along : {V : Type 0} → Equations V → List V → ℕ → V
along s xs e = s.flow e (value_at s xs (s.source e))

-- the start value of a node joined with what flows into it along the first edges
abbrev into : {V : Type 0} → (V → V → V) → Equations V → List V → ℕ → ℕ → V
into joined s xs n zero = s.start n
into joined s xs n (suc e) = cond (eqb (s.target e) n) (joined (into joined s xs n e) (along s xs e)) (into joined s xs n e)

-- a claim that two values keep, of a value that is one of them
either_by : {V : Type 0} (P : V → Type 0) (b : Bool) (x y : V) → (b ≡ true → P x) → P y → P (cond b x y)
either_by P true x y h k = h refl
either_by P false x y h k = k

module _ {V : Type 0} (fits : List ℕ → V → Type 0) (height : List ℕ → ℕ) (rank : List ℕ → V → ℕ) (below : V → V → Bool) (joined : V → V → V) (L : LatticeLaws fits height rank below joined) (k : List ℕ)
    (s : Equations V) (F : FlowLaws (fits k) below s) (xs : List V) (least : IsLeast (fits k) below s xs) where
  source_fits : (e : ℕ) → e < s.edges → fits k (value_at s xs (s.source e))
  source_fits e l = least.solves.fit (s.source e) (F.sources e l)

  along_fits : (e : ℕ) → e < s.edges → fits k (along s xs e)
  along_fits e l = F.flows_fit e (value_at s xs (s.source e)) l (source_fits e l)

  into_fits : (n m : ℕ) → n < s.nodes → m ≤ s.edges → fits k (into joined s xs n m)
  into_fits n zero l h = F.starts_fit n l
  into_fits n (suc e) l h =
      let rest = into_fits n e l (omega (arith, h)) in
      either_by (fits k) (eqb (s.target e) n) _ _ (λ _. L.join_fits k (into joined s xs n e) (along s xs e) rest (along_fits e (omega (arith, h)))) rest

  above_start : (n m : ℕ) → n < s.nodes → m ≤ s.edges → below (s.start n) (into joined s xs n m) ≡ true
  above_start n zero l h = L.reflexive k (s.start n) (F.starts_fit n l)
  above_start n (suc e) l h =
      let rest = above_start n e l (omega (arith, h)) in
      let f = into_fits n e l (omega (arith, h)) in
      let g = along_fits e (omega (arith, h)) in
      either_by (λ x. below (s.start n) x ≡ true) (eqb (s.target e) n) _ _
      (λ _. L.transitive k (s.start n) (into joined s xs n e) (joined (into joined s xs n e) (along s xs e)) (F.starts_fit n l) f (L.join_fits k (into joined s xs n e) (along s xs e) f g) rest (L.above_left k (into joined s xs n e) (along s xs e) f g)) rest

  above_along : (n m e : ℕ) → n < s.nodes → m ≤ s.edges → e < m → s.target e ≡ n → below (along s xs e) (into joined s xs n m) ≡ true
  above_along n zero e l h u t = absurd (omega (arith, u))
  above_along n (suc d) e l h u t = by (λ (less : e < d). above_along n d e l (omega (arith, h)) less t) (cases_lt e d)
    where
      f : fits k (into joined s xs n d)
      f = into_fits n d l (omega (arith, h))

      g : fits k (along s xs d)
      g = along_fits d (omega (arith, h))

      by : (e < d → below (along s xs e) (into joined s xs n d) ≡ true) → (e < d) ⊎ (d ≤ e) → below (along s xs e) (cond (eqb (s.target d) n) (joined (into joined s xs n d) (along s xs d)) (into joined s xs n d)) ≡ true
      by earlier (inl less) =
          let rest = earlier less in
          either_by (λ x. below (along s xs e) x ≡ true) (eqb (s.target d) n) _ _
          (λ _. L.transitive k (along s xs e) (into joined s xs n d) (joined (into joined s xs n d) (along s xs d)) (along_fits e (omega (arith, u, h))) f (L.join_fits k (into joined s xs n d) (along s xs d) f g) rest (L.above_left k (into joined s xs n d) (along s xs d) f g)) rest
      by earlier (inr more) =
          let same : e ≡ d = omega (arith, u, more) in
          let at : eqb (s.target d) n ≡ true = eq-eqb (s.target d) n (ap s.target (sym same) ∙ t) in
          subst (λ b. below (along s xs e) (cond b (joined (into joined s xs n d) (along s xs d)) (into joined s xs n d)) ≡ true) (sym at)
          (subst (λ c. below (along s xs c) (joined (into joined s xs n d) (along s xs d)) ≡ true) (sym same) (L.above_right k (into joined s xs n d) (along s xs d) f g))

  below_value : (n m : ℕ) → n < s.nodes → m ≤ s.edges → below (into joined s xs n m) (value_at s xs n) ≡ true
  below_value n zero l h = least.solves.above_start n l
  below_value n (suc e) l h = by (below_value n e l (omega (arith, h))) (eqb (s.target e) n) refl
    where
      by : below (into joined s xs n e) (value_at s xs n) ≡ true → (b : Bool) → eqb (s.target e) n ≡ b → below (cond b (joined (into joined s xs n e) (along s xs e)) (into joined s xs n e)) (value_at s xs n) ≡ true
      by rest true i =
          let at : s.target e ≡ n = eqb-true (s.target e) n i in
          let flows = subst (λ t. below (along s xs e) (value_at s xs t) ≡ true) at (least.solves.above_flows e (omega (arith, h))) in
          L.least_above k (into joined s xs n e) (along s xs e) (value_at s xs n) (into_fits n e l (omega (arith, h))) (along_fits e (omega (arith, h))) (least.solves.fit n l) rest flows
      by rest false i = rest

  -- these joins as an assignment
  joins : List V
  joins = map (λ n. into joined s xs n s.edges) (range_with_len 0 s.nodes)

  join_at : (n : ℕ) → n < s.nodes → value_at s joins n ≡ into joined s xs n s.edges
  unfolding joins
  join_at n l = get_or-map-range_with_len (λ n. into joined s xs n s.edges) 0 s.nodes n n (s.start n) l (omega arith)

  joins_solve : IsSolution (fits k) below s joins
  unfolding joins
  joins_solve = record {
    one_each = count;
    fit = λ n l. subst (fits k) (sym (join_at n l)) (into_fits n s.edges l (omega arith));
    above_start = λ n l. subst (λ x. below (s.start n) x ≡ true) (sym (join_at n l)) (above_start n s.edges l (omega arith));
    above_flows = flows;
  }
    where
      count : length joins ≡ s.nodes
      count = length-map-range_with_len (λ n. into joined s xs n s.edges) 0 s.nodes

      flows : (e : ℕ) → e < s.edges → below (s.flow e (value_at s joins (s.source e))) (value_at s joins (s.target e)) ≡ true
      flows e l =
          let a = F.sources e l in
          let b = F.targets e l in
          let fa = into_fits (s.source e) s.edges a (omega arith) in
          let rises : below (s.flow e (into joined s xs (s.source e) s.edges)) (along s xs e) ≡ true = F.monotone e (into joined s xs (s.source e) s.edges) (value_at s xs (s.source e)) l fa (source_fits e l) (below_value (s.source e) s.edges a (omega arith)) in
          let up = above_along (s.target e) s.edges e b (omega arith) l refl in
          subst (λ x. below (s.flow e x) (value_at s joins (s.target e)) ≡ true) (sym (join_at (s.source e) a))
          (subst (λ y. below (s.flow e (into joined s xs (s.source e) s.edges)) y ≡ true) (sym (join_at (s.target e) b))
          (L.transitive k (s.flow e (into joined s xs (s.source e) s.edges)) (along s xs e) (into joined s xs (s.target e) s.edges) (F.flows_fit e (into joined s xs (s.source e) s.edges) l fa) (along_fits e l) (into_fits (s.target e) s.edges b (omega arith)) rises up))

  value_is : (n : ℕ) → n < s.nodes → into joined s xs n s.edges ≡ value_at s xs n
  value_is n l =
      let up = subst (λ x. below (value_at s xs n) x ≡ true) (join_at n l) (least.least joins joins_solve n l) in
      L.antisymmetric k (into joined s xs n s.edges) (value_at s xs n) (into_fits n s.edges l (omega arith)) (least.solves.fit n l) (below_value n s.edges l (omega arith)) up

  module _ (P : ℕ → V → Type 0) (starts : (n : ℕ) → n < s.nodes → P n (s.start n)) (flows : (e : ℕ) → e < s.edges → P (s.target e) (along s xs e)) (join : (n : ℕ) (x y : V) → P n x → P n y → P n (joined x y)) where
    into_in : (n m : ℕ) → n < s.nodes → m ≤ s.edges → P n (into joined s xs n m)
    into_in n zero l h = starts n l
    into_in n (suc e) l h =
        let rest = into_in n e l (omega (arith, h)) in
        either_by (P n) (eqb (s.target e) n) _ _ (λ i. join n (into joined s xs n e) (along s xs e) rest (subst (λ t. P t (along s xs e)) (eqb-true (s.target e) n i) (flows e (omega (arith, h))))) rest

    pub least_within : (n : ℕ) → n < s.nodes → P n (value_at s xs n)
    least_within n l = subst (P n) (value_is n l) (into_in n s.edges l (omega arith))
