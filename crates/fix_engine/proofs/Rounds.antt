-- How the ranks fall in a round.
use Rattle.std.proofs.Common.{◌≡◌, ℕ, ◌+◌, ◌||◌, not, MatchBool, below_more, ◌<◌, Bool, true, false, List, refl, sym, ◌∙◌, subst, arith, eq-eqb}
use Rattle.fix_engine.specs.Lattice.{LatticeLaws}
use Rattle.fix_engine.specs.Least.{Equations, FlowLaws, IsBetween, IsSatisfied, value_at}
use Rattle.fix_engine.specs.Solving.{EachSatisfied, raised, raises, ranks_left}
use Rattle.fix_engine.proofs.Rising.{source_fits}
use Rattle.fix_engine.proofs.Pending.{posted_same}
use Rattle.fix_engine.proofs.Work.{rank_pays, sum_below_falls}

module _ {V : Type 0} {fits : List ℕ → V → Type 0} {height : List ℕ → ℕ} {rank : List ℕ → V → ℕ} {below : V → V → Bool} {joined : V → V → V}
    (lat : LatticeLaws fits height rank below joined) (k : List ℕ) (s : Equations V) (flow : FlowLaws (fits k) below s)
    (xs : List V) (between : IsBetween (fits k) below s xs) (e : ℕ) (is_edge : e < s.edges) where
  -- the edge is satisfied, or the ranks fall
  raised_or_satisfied : (rose : Bool) → rose ≡ raises below s xs e
      → MatchBool rose (ranks_left (rank k) s (raised joined s xs e) < ranks_left (rank k) s xs) ((raised joined s xs e ≡ xs) × IsSatisfied below s xs e)
  raised_or_satisfied true tells =
      let pays = rank_pays lat k s flow xs between e is_edge (value_at s xs (s.source e)) (source_fits lat k s flow xs between e is_edge) in
      let here = rw (← tells, eq-eqb (s.target e) (s.target e) refl) at (pays (s.target e)) in
      sum_below_falls (λ n. rank k (value_at s xs n)) (λ n. rank k (value_at s (raised joined s xs e) n)) s.nodes (s.target e) (flow.targets e is_edge)
      (λ n h. let p = pays n in omega (arith, p)) (omega (arith, here))
  raised_or_satisfied false tells =
      (posted_same lat k s flow xs between e is_edge (value_at s xs (s.source e)) (source_fits lat k s flow xs between e is_edge) (sym tells), low (below (s.flow e (value_at s xs (s.source e))) (value_at s xs (s.target e))) tells)
    where
      low : (b : Bool) → false ≡ not b → b ≡ true
      low true h = refl
      low false h = cc

  -- one more edge of a round
  pub round_more : (began next : List V) (was rose : Bool) → next ≡ raised joined s xs e → rose ≡ raises below s xs e
      → MatchBool was (ranks_left (rank k) s xs < ranks_left (rank k) s began) ((xs ≡ began) × EachSatisfied below s xs e)
      → MatchBool (was || rose) (ranks_left (rank k) s next < ranks_left (rank k) s began) ((next ≡ began) × EachSatisfied below s next (e + 1))
  round_more began next was rose is tells so_far =
      let P : List V → Type 0 = λ ys. MatchBool (was || rose) (ranks_left (rank k) s ys < ranks_left (rank k) s began) ((ys ≡ began) × EachSatisfied below s ys (e + 1)) in
      subst P (sym is) (joined_up was rose so_far (raised_or_satisfied rose tells))
    where
      joined_up : (was rose : Bool)
          → MatchBool was (ranks_left (rank k) s xs < ranks_left (rank k) s began) ((xs ≡ began) × EachSatisfied below s xs e)
          → MatchBool rose (ranks_left (rank k) s (raised joined s xs e) < ranks_left (rank k) s xs) ((raised joined s xs e ≡ xs) × IsSatisfied below s xs e)
          → MatchBool (was || rose) (ranks_left (rank k) s (raised joined s xs e) < ranks_left (rank k) s began) ((raised joined s xs e ≡ began) × EachSatisfied below s (raised joined s xs e) (e + 1))
      joined_up true true p q = omega arith
      joined_up true false p q = let P : List V → Type 0 = λ ys. ranks_left (rank k) s ys < ranks_left (rank k) s began in subst P (sym q.0) p
      joined_up false true p q = let P : List V → Type 0 = λ ys. ranks_left (rank k) s (raised joined s xs e) < ranks_left (rank k) s ys in subst P p.0 q
      joined_up false false p q =
          let P : List V → Type 0 = λ ys. EachSatisfied below s ys (e + 1) in
          (q.0 ∙ p.0, subst P (sym q.0) (below_more _ _ p.1 q.1))
