-- Names that two stores share.
use Rattle.std.specs.Prelude.{ℕ, List, [], ◌∷◌, min, Bool, false, ◌&&◌, nat_lt, if◌then◌else◌, Option, None, Some}
use Rattle.std.specs.List.{list_any}
use Rattle.std.specs.Str.{bytes_eq}
use Rattle.words.specs.declared.options.Name.{Name}
use Rattle.words.specs.declared.options.Name.TheVariants.{Standard, Word}
use Rattle.words.specs.declared.options.Options.{Options}
use Rattle.words.specs.Bytes.{bytes_of}

-- A standard output by default stands at word 0.
abbrev pub word_of : Name → ℕ
word_of Standard = 0
word_of (Word word from) = word

abbrev pub is_twin : List (List ℕ) → Name → Option Name → Bool
is_twin words name None = false
is_twin words name (Some earlier) = nat_lt (word_of earlier) (word_of name) && bytes_eq (bytes_of words earlier) (bytes_of words name)

-- the word of this name, where an earlier word gives the same
abbrev pub twin_word : List (List ℕ) → List (Option Name) → Option Name → Option ℕ
twin_word words names None = None
twin_word words names (Some name) = if list_any (is_twin words name) names then Some (word_of name) else None

abbrev pub lesser : Option ℕ → Option ℕ → Option ℕ
lesser None b = b
lesser (Some a) None = Some a
lesser (Some a) (Some b) = Some (min a b)

-- the least such word among the names given last
abbrev pub least_twin : List (List ℕ) → List (Option Name) → List (Option Name) → Option ℕ
least_twin words names [] = None
least_twin words names (n ∷ ns) = lesser (twin_word words names n) (least_twin words names ns)

-- the names under which a run stores
abbrev pub stored_names : Options → List (Option Name)
stored_names o = Some o.output ∷ o.cgraph ∷ o.icf ∷ o.cp ∷ o.sra ∷ o.modref ∷ o.summary ∷ []
