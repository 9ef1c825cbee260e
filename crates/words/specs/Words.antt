-- What a list of words means. Words count from 1.
use Rattle.std.specs.Prelude.{ℕ, ◌+◌, List, length, ◌==◌, codes, if◌then◌else◌, Option, None, Some, Result, Ok, Err}
use Rattle.words.specs.declared.options.SourceName.{SourceName}
use Rattle.words.specs.declared.options.Options.{Options}
use Rattle.words.specs.declared.options.UsageFault.{UsageFault}
use Rattle.words.specs.declared.gathered.Gathered.{Gathered}
use Rattle.words.specs.Gathered.{gathered_words, options_from}
use Rattle.words.specs.Sequence.{fault_at}
use Rattle.words.specs.Twins.{least_twin, stored_names}
pub use Rattle.words.specs.Bytes.{word_at, bytes_of}

abbrev pub unless_twin : Options → Option ℕ → Result Options UsageFault
unless_twin o None = Ok o
unless_twin o (Some word) = Err (fault_at word 5)

abbrev pub with_source : List (List ℕ) → Gathered → Option SourceName → Result Options UsageFault
with_source words g None = Err (fault_at (length words + 1) 1)
with_source words g (Some source) =
    let o = options_from g source in
    unless_twin o (least_twin words (stored_names o) (stored_names o))

abbrev pub finished : List (List ℕ) → Result Gathered UsageFault → Result Options UsageFault
finished words (Err f) = Err f
finished words (Ok g) = with_source words g g.source

-- The options of the words, or their first fault: that of the first faulty word, then a missing input, then one name for
-- two stores.
unfoldable pub options_of : List (List ℕ) → Result Options UsageFault
options_of words = finished words (gathered_words words)

-- the text of a usage fault's code
unfoldable pub usage_text : ℕ → List ℕ
usage_text code =
    if code == 1 then codes "U01 no input"
    else (if code == 2 then codes "U02 unknown option"
    else (if code == 3 then codes "U03 bad value"
    else (if code == 4 then codes "U04 second input or output"
    else (if code == 5 then codes "U05 one name for two outputs"
    else (if code == 7 then codes "U07 value missing"
    else codes "U08 unknown parameter")))))
