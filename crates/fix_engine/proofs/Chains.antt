-- Each rise of a chain takes from the rank.
use Rattle.std.proofs.Common.{◌≤◌, ℕ, Bool, List, [], ◌∷◌, length, arith}
use Rattle.fix_engine.specs.Lattice.{LatticeLaws, IsRising}

module _ {V : Type 0} {fits : List ℕ → V → Type 0} {height : List ℕ → ℕ} {rank : List ℕ → V → ℕ} {below : V → V → Bool} {joined : V → V → V}
    (lat : LatticeLaws fits height rank below joined) (k : List ℕ) where
  first_fits : (x : V) (xs : List V) → IsRising (fits k) below x xs → fits k x
  first_fits x [] chain = chain
  first_fits x (y ∷ ys) chain = chain.0

  chain_below_rank : (x : V) (xs : List V) → IsRising (fits k) below x xs → length xs ≤ rank k x
  chain_below_rank x [] chain = omega arith
  chain_below_rank x (y ∷ ys) chain =
      let rest = chain_below_rank y ys chain.3 in
      let falls = lat.rank_falls k x y chain.0 (first_fits y ys chain.3) chain.1 chain.2 in omega (arith, rest, falls)

  pub chain_below_height : (x : V) (xs : List V) → IsRising (fits k) below x xs → length xs ≤ height k
  chain_below_height x xs chain =
      let all = chain_below_rank x xs chain in
      let top = lat.rank_bounded k x (first_fits x xs chain) in omega (arith, all, top)
