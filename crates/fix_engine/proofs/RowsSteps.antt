-- The kind of the items of two lists that fit one kind.
use Rattle.std.proofs.Common.{ℕ, List, [], ◌∷◌}
use Rattle.fix_engine.specs.Lattice.{AreAlike}
use Rattle.fix_engine.specs.Rows.{Each, FitsRows}

kind_from : {V : Type 0} (fits : List ℕ → V → Type 0) (kind : List ℕ) (xs ys : List V) → FitsRows fits kind xs → FitsRows fits kind ys → (k : List ℕ) × Each (fits k) xs × Each (fits k) ys
kind_from fits [] xs ys f h = absurd f
kind_from fits (n ∷ k) xs ys f h = (k, f.1, h.1)

pub kind_of_items : {V : Type 0} (fits : List ℕ → V → Type 0) (xs ys : List V) → AreAlike (FitsRows fits) xs ys → (k : List ℕ) × Each (fits k) xs × Each (fits k) ys
kind_of_items fits xs ys alike = kind_from fits alike.0 xs ys alike.1 alike.2
