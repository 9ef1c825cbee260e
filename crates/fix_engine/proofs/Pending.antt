-- A post keeps it that each edge is pending or satisfied.
use Rattle.std.proofs.Common.{◌≡◌, ◌≢◌, ℕ, ◌<◌, ◌⊎◌, inl, inr, not, Bool, true, false, List, length, set, get_or, refl, sym, ◌∙◌, ap, subst, arith}
use Rattle.std.proofs.lemmas.List.{get_or-set_same, get_or-set_other, set-get_or}
use Rattle.std.proofs.lemmas.Bool.{cases_Bool}
use Rattle.std.proofs.lemmas.Bool.Decides.{eqb_tells}
use Rattle.fix_engine.specs.Lattice.{LatticeLaws}
use Rattle.fix_engine.specs.Least.{Equations, FlowLaws, IsBetween, IsSatisfied, value_at}
use Rattle.fix_engine.specs.Solving.{posted, rises}
use Rattle.fix_engine.proofs.Rising.{joined_below, target_fits, source_fits}

-- what is read after a write, there and elsewhere
pub read_after_write : {X : Type 0} (xs : List X) (t n : ℕ) (v d : X) → t < length xs
    → ((n ≡ t) × (get_or (set xs t v) n d ≡ v)) ⊎ ((n ≢ t) × (get_or (set xs t v) n d ≡ get_or xs n d))
read_after_write {X} xs t n v d lt =
    elim (eqb_tells n t) [
      | inl same ↦
          let P : ℕ → Type 0 = λ i. get_or (set xs t v) i d ≡ v in
          inl (same.1, subst P (sym same.1) (get_or-set_same xs t v d lt))
      | inr other ↦ inr (other.1, get_or-set_other xs t n v d other.1)
    ]

module _ {V : Type 0} {fits : List ℕ → V → Type 0} {height : List ℕ → ℕ} {rank : List ℕ → V → ℕ} {below : V → V → Bool} {joined : V → V → V}
    (lat : LatticeLaws fits height rank below joined) (k : List ℕ) (s : Equations V) (flow : FlowLaws (fits k) below s)
    (xs : List V) (between : IsBetween (fits k) below s xs) (e : ℕ) (is_edge : e < s.edges) (from : V) (from_fits : fits k from) where
  pub old_fits : fits k (value_at s xs (s.target e))
  old_fits = target_fits lat k s flow xs between e is_edge

  pub found_fits : fits k (s.flow e from)
  found_fits = flow.flows_fit e from is_edge from_fits

  pub target_room : s.target e < length xs
  target_room = let h = flow.targets e is_edge in omega (arith, h, between.one_each)

  -- where the target does not rise, nothing changes
  pub posted_same : rises below s xs e from ≡ false → posted joined s xs e from ≡ xs
  posted_same still =
      let old = value_at s xs (s.target e) in
      let low : below (s.flow e from) old ≡ true = not_rises (below (s.flow e from) old) still in
      ap (set xs (s.target e)) (joined_below lat k old (s.flow e from) old_fits found_fits low) ∙ set-get_or xs (s.target e) (s.start (s.target e))
    where
      not_rises : (b : Bool) → not b ≡ false → b ≡ true
      not_rises true h = refl
      not_rises false h = cc

  -- what a node has after the post
  pub value_after : (n : ℕ) → ((n ≡ s.target e) × (value_at s (posted joined s xs e from) n ≡ joined (value_at s xs (s.target e)) (s.flow e from)))
      ⊎ ((n ≢ s.target e) × (value_at s (posted joined s xs e from) n ≡ value_at s xs n))
  value_after n = read_after_write xs (s.target e) n (joined (value_at s xs (s.target e)) (s.flow e from)) (s.start n) target_room

  -- a node rose, or is as it was
  node_after : (n : ℕ) → ((rises below s xs e from ≡ true) × (n ≡ s.target e)) ⊎ (value_at s (posted joined s xs e from) n ≡ value_at s xs n)
  node_after n =
      elim (cases_Bool (rises below s xs e from)) [
        | inr still ↦ inr (ap (λ (ys : List V). value_at s ys n) (posted_same still))
        | inl risen ↦ elim (value_after n) [
          | inl here ↦ inl (risen, here.0)
          | inr there ↦ inr there.1
        ]
      ]

  still_satisfied : (d : ℕ) → d < s.edges → value_at s (posted joined s xs e from) (s.source d) ≡ value_at s xs (s.source d)
      → IsSatisfied below s xs d → IsSatisfied below s (posted joined s xs e from) d
  still_satisfied d h same was =
      let old = value_at s xs (s.target e) in
      let x = s.flow d (value_at s xs (s.source d)) in
      let x_fits = flow.flows_fit d (value_at s xs (s.source d)) h (source_fits lat k s flow xs between d h) in
      let P : V → Type 0 = λ v. below (s.flow d v) (value_at s (posted joined s xs e from) (s.target d)) ≡ true in
      let Q : V → Type 0 = λ v. below x v ≡ true in
      let R : ℕ → Type 0 = λ n. below x (value_at s xs n) ≡ true in
      subst P (sym same) (elim (value_after (s.target d)) [
        | inr there ↦ subst Q (sym there.1) was
        | inl here ↦
            subst Q (sym here.1) (lat.transitive k x old (joined old (s.flow e from)) x_fits old_fits (lat.join_fits k old (s.flow e from) old_fits found_fits)
            (subst R here.0 was) (lat.above_left k old (s.flow e from) old_fits found_fits))
      ])

  -- the edge itself is satisfied, where what was posted is the flow of its source's value
  itself_satisfied : (d : ℕ) → d ≡ e → value_at s (posted joined s xs e from) (s.source d) ≡ value_at s xs (s.source d) → from ≡ value_at s xs (s.source e)
      → IsSatisfied below s (posted joined s xs e from) d
  itself_satisfied d is same from_is =
      let old = value_at s xs (s.target e) in
      let S : ℕ → Type 0 = λ n. value_at s (posted joined s xs e from) (s.source n) ≡ value_at s xs (s.source n) in
      let T : ℕ → Type 0 = λ n. IsSatisfied below s (posted joined s xs e from) n in
      let flows : s.flow e (value_at s (posted joined s xs e from) (s.source e)) ≡ s.flow e from = ap (s.flow e) (subst S is same ∙ sym from_is) in
      let at_target : value_at s (posted joined s xs e from) (s.target e) ≡ joined old (s.flow e from) = get_or-set_same xs (s.target e) (joined old (s.flow e from)) (s.start (s.target e)) target_room in
      let P : V → Type 0 = λ v. below v (value_at s (posted joined s xs e from) (s.target e)) ≡ true in
      let Q : V → Type 0 = λ v. below (s.flow e from) v ≡ true in
      subst T (sym is) (subst P (sym flows) (subst Q (sym at_target) (lat.above_right k old (s.flow e from) old_fits found_fits)))

  -- P says which edges were pending, and Q which are
  pub pending_after : (P Q : ℕ → Type 0)
      → ((d : ℕ) → d < s.edges → d ≢ e → P d → Q d)
      → (rises below s xs e from ≡ true → (d : ℕ) → d < s.edges → s.source d ≡ s.target e → Q d)
      → (from ≡ value_at s xs (s.source e)) ⊎ Q e
      → ((d : ℕ) → d < s.edges → P d ⊎ IsSatisfied below s xs d)
      → (d : ℕ) → d < s.edges → Q d ⊎ IsSatisfied below s (posted joined s xs e from) d
  pending_after P Q stays risen itself pending d h =
      elim (node_after (s.source d)) [
        | inl rose ↦ inl (risen rose.0 d h rose.1)
        | inr same ↦
            elim (eqb_tells d e) [
              | inl is ↦ elim itself [
                | inl from_is ↦ inr (itself_satisfied d is.1 same from_is)
                | inr yet ↦ inl (subst Q (sym is.1) yet)
              ]
              | inr other ↦ elim (pending d h) [
                | inl yet ↦ inl (stays d h other.1 yet)
                | inr satisfied ↦ inr (still_satisfied d h same satisfied)
              ]
            ]
      ]
