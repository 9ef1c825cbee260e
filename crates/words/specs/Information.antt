-- What a command line asks a program to tell of itself.
use Rattle.std.specs.Prelude.{ℕ, List, [], ◌∷◌, codes, Option, None, Some, if◌then◌else◌}
use Rattle.words.specs.declared.about.Information.{Information}
use Rattle.words.specs.declared.about.Information.TheVariants.{Help, Version}
use Rattle.words.specs.Prefix.{is_word}

unfoldable pub information_named : List ℕ → Option Information
information_named word =
    if is_word word (codes "--help") then Some Help
    else (if is_word word (codes "--version") then Some Version
    else None)

-- nothing, unless there is one word alone
abbrev pub information_of : List (List ℕ) → Option Information
information_of [] = None
information_of (word ∷ []) = information_named word
information_of (word ∷ second ∷ rest) = None
