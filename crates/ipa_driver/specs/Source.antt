-- Where the program of a run comes from: a file, or the rule of generated programs.
use Rattle.std.specs.Prelude.{◌≡◌, ◌⊎◌, ℕ, ◌≤◌, List, [], Option, IfSome, IsSomeAnd, ⊤}
use Rattle.shelf.specs.Outside.{Meaning, Contents, at_name, Rose, OnSource, LacksSource}
use Rattle.words.specs.declared.options.SourceName.{SourceName}
use Rattle.words.specs.declared.options.SourceName.TheVariants.{File, Generate}
use Rattle.words.specs.Words.{bytes_of}
use Rattle.gimple_ir.specs.declared.program.Program.{Program}
use Rattle.gimple_gen.specs.Generated.{generated}
use Rattle.ipa_driver.specs.declared.outputs.Output.{Output}
use Rattle.ipa_driver.specs.Verdict.{Verdict, Good, IsVerdict}
use Rattle.ipa_driver.specs.Stores.{pairs, total}

-- the input's name as messages have it; a generated program has none, and no message about it
abbrev pub input_name : List (List ℕ) → SourceName → List ℕ
input_name words (File name) = bytes_of words name
input_name words (Generate n) = []

-- what is to be said of the source, where sources are told
abbrev pub HasVerdict : Option Contents → List (List ℕ) → SourceName → Verdict → Type 0
HasVerdict sources words (File name) v = OnSource sources (bytes_of words name) (λ bytes. IsVerdict bytes v)
HasVerdict sources words (Generate n) v = v ≡ Good (generated n)

-- the source was not read: the shelf failed, or lacks the file
abbrev pub IsUnread : List (List ℕ) → SourceName → Meaning → Meaning → Type 0
IsUnread words (File name) old new = Rose old.read_faults new.read_faults ⊎ LacksSource old.sources (bytes_of words name)
IsUnread words (Generate n) old new = ⊥

-- which lists of outputs a run on a program may have
abbrev pub MadeOf : Type 1
MadeOf = Program → List Output → Type 0

-- all texts that a run on this program may store cost at most this many bytes
abbrev pub StoresWithin : List (List ℕ) → MadeOf → ℕ → Program → Type 0
StoresWithin words Makes r p = (outputs : List Output) → Makes p outputs → total (pairs words outputs) ≤ r

abbrev pub CostsAtMost : List (List ℕ) → MadeOf → ℕ → List ℕ → Type 0
CostsAtMost words Makes r bytes = (p : Program) → IsVerdict bytes (Good p) → StoresWithin words Makes r p

-- a file's source is told, and there is so much room for what is made of it, if it is there and good
abbrev pub WithinRoom : List (List ℕ) → SourceName → MadeOf → Option Contents → ℕ → Type 0
WithinRoom words (File name) Makes sources r =
    IsSomeAnd sources (λ m. IfSome (at_name m (bytes_of words name)) (CostsAtMost words Makes r))
WithinRoom words (Generate n) Makes sources r = StoresWithin words Makes r (generated n)

-- the source is told, there and good
abbrev pub IsGoodSource : List (List ℕ) → SourceName → Option Contents → Type 0
IsGoodSource words (File name) sources =
    IsSomeAnd sources (λ m. IsSomeAnd (at_name m (bytes_of words name)) (λ bytes. (p : Program) × IsVerdict bytes (Good p)))
IsGoodSource words (Generate n) sources = ⊤
