-- Tables from names to items of a program.
use Rattle.std.specs.Prelude.{◌≡◌, ℕ, true, List, [], ◌∷◌, ◌++◌, map, if◌then◌else◌}
use Rattle.std.specs.Borrow.{Bor}
use Rattle.gimple_ir.specs.declared.declarations.StructDef.{StructDef}
use Rattle.gimple_core.specs.Env.{Names, has, structs_by_name}

-- the entries of a map of borrowed names and items
abbrev pub plain : {T : Type 0} → List (Bor (List ℕ) × Bor T) → Names T
plain entries = map (λ e. (e.0.now, e.1.now)) entries

-- with one more item, unless its name has one
abbrev pub noted : {T : Type 0} → Names T → List ℕ → T → Names T
noted names name item = if has name names then names else names ++ (name, item) ∷ []

-- the first item of each name, after those that are there
unfoldable pub first_of_each : {T : Type 0} → Names T → Names T → Names T
first_of_each there [] = there
first_of_each there (e ∷ es) = first_of_each (noted there e.0 e.1) es

-- the names of the first structs are among those of the second ones
abbrev pub AreAmong : List StructDef → List StructDef → Type 0
AreAmong earlier all = (name : List ℕ) → has name (structs_by_name earlier) ≡ true → has name (structs_by_name all) ≡ true
