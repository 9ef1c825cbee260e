-- The symbols of all functions of a program.
use Rattle.std.specs.Prelude.{◌≡◌, ℕ, ◌+◌, List, [], ◌∷◌, length}
use Rattle.gimple_core.specs.Sealed.{Sealed}
use Rattle.body_symbols.specs.Found.{OfFunction, Found, AreSymbols}

-- those of the functions from a number on
abbrev pub TablesFrom : Sealed → ℕ → List Found → Type 0
TablesFrom p n [] = Unit {0}
TablesFrom p n (t ∷ ts) = OfFunction p.program n (λ f. AreSymbols p n f t) × TablesFrom p (n + 1) ts

-- one for each function in order
pub record AreTables (p : Sealed) (ts : List Found) : Type 0 where
  pub count : length ts ≡ length p.program.functions
  pub each : TablesFrom p 0 ts
