-- A join that changes nothing.
use Rattle.std.specs.Prelude.{◌≡◌, ℕ, Bool, true, List}
use Rattle.fix_engine.specs.Lattice.{AreAlike, LatticeLaws}

-- what is below is joined already
pub joined_same : {V : Type 0} (fits : List ℕ → V → Type 0) (height : List ℕ → ℕ) (rank : List ℕ → V → ℕ) (below : V → V → Bool) (joined : V → V → V) → LatticeLaws fits height rank below joined → (x y : V) → AreAlike fits x y → below y x ≡ true → x ≡ joined x y
joined_same fits height rank below joined lat x y (k, f, g) e = lat.antisymmetric k x (joined x y) f (lat.join_fits k x y f g) (lat.above_left k x y f g) (lat.least_above k x y x f g f (lat.reflexive k x f) e)
