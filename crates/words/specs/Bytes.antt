-- Names as bytes of words. Words count from 1.
use Rattle.std.specs.Prelude.{ℕ, ◌-◌, List, [], ◌∷◌, drop, slice_index_or}
use Rattle.words.specs.declared.options.Name.{Name}
use Rattle.words.specs.declared.options.Name.TheVariants.{Standard, Word}

abbrev pub word_at : List (List ℕ) → ℕ → List ℕ
word_at words k = slice_index_or words (k - 1) []

-- the bytes that a name stands for
abbrev pub bytes_of : List (List ℕ) → Name → List ℕ
bytes_of words Standard = 45 ∷ []
bytes_of words (Word word from) = drop from (word_at words word)
