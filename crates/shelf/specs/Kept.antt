-- What a log keeps.
use Rattle.std.specs.Prelude.{ℕ, List, [], ◌∷◌, Option, None, Some, if◌then◌else◌}
use Rattle.std.specs.Str.{bytes_eq}
use Rattle.std.specs.Option.{option_or}

pub record Kept : Type 0 where
  -- the first store first
  pub entries : List (List ℕ × List ℕ)
  pub told : List ℕ
  pub room : ℕ

-- the last store under this name
abbrev pub stored_in : List (List ℕ × List ℕ) → List ℕ → Option (List ℕ)
stored_in [] name = None
stored_in (e ∷ es) name = option_or (stored_in es name) (if bytes_eq e.0 name then Some e.1 else None)
