-- What a word is, and what it begins with; alone, and by the rows of a table.
use Rattle.std.specs.Prelude.{ℕ, List, [], ◌∷◌, length, Bool, nat_eq, if◌then◌else◌, Option, None, Some}
use Rattle.std.specs.List.{starts_with}
use Rattle.std.specs.Str.{bytes_eq}

unfoldable pub begins : List ℕ → List ℕ → Bool
begins text prefix = starts_with nat_eq text prefix

unfoldable pub is_word : List ℕ → List ℕ → Bool
is_word text word = bytes_eq text word

-- what a table has for a word: the first row of it counts
unfoldable pub row_named : {A : Type 0} → List (List ℕ × A) → List ℕ → Option A
row_named [] text = None
row_named (row ∷ rows) text = if is_word text row.0 then Some row.1 else row_named rows text

-- what a table has for the beginning of a text, and where the rest begins
unfoldable pub row_begun : {A : Type 0} → List (List ℕ × A) → List ℕ → Option (A × ℕ)
row_begun [] text = None
row_begun (row ∷ rows) text = if begins text row.0 then Some (row.1, length row.0) else row_begun rows text
