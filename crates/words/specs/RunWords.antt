-- What a list of words means to `gimple-run`: options, then the input, then input numbers. Words count from 1.
use Rattle.std.specs.Prelude.{ℕ, ◌+◌, ◌-◌, ◌^◌, List, [], ◌∷◌, length, drop, map, Bool, false, not, is_none, ◌&&◌, ◌==◌, codes, if◌then◌else◌, ℤ, pos, neg_ℤ, unwrap_or, Option, None, Some, Result, Ok, Err}
use Rattle.std.specs.Option.{option_map, option_or}
use Rattle.gimple_ir.specs.declared.scalar.Mode.{Mode}
use Rattle.gimple_ir.specs.declared.scalar.Mode.TheVariants.{Trap}
use Rattle.words.specs.declared.options.Name.TheVariants.{Word}
use Rattle.words.specs.declared.options.UsageFault.{UsageFault}
use Rattle.words.specs.declared.run_options.RunItem.{RunItem}
use Rattle.words.specs.declared.run_options.RunItem.TheVariants.{Turns, Mode as ModeItem}
use Rattle.words.specs.declared.run_options.RunOptions.{RunOptions}
use Rattle.words.specs.declared.run_options.Settings.{Settings}
use Rattle.words.specs.Items.{mode_at}
use Rattle.words.specs.Numbers.{limited}
use Rattle.words.specs.Prefix.{begins}

-- more than a `-`, and begins so
unfoldable pub is_option : List ℕ → Bool
is_option [] = false
is_option (b ∷ bs) = (b == 45) && not (length bs == 0)

abbrev pub turns_or : Option ℕ → Result RunItem ℕ
turns_or None = Err 3
turns_or (Some n) = Ok (Turns n)

abbrev pub mode_or_turns : List ℕ → Option Mode → Result RunItem ℕ
mode_or_turns word (Some mode) = Ok (ModeItem mode)
mode_or_turns word None = if begins word (codes "--turns=") then turns_or (limited 0 1000000000 (drop 8 word)) else Err 2

-- what an option says, or the code of its fault
unfoldable pub option_of : List ℕ → Result RunItem ℕ
option_of word = mode_or_turns word (mode_at word)

-- digits, behind one `-` or none, of a number that has 64 bits
unfoldable pub integer_of : List ℕ → Option ℤ
integer_of [] = None
integer_of (b ∷ bs) =
    if b == 45 then option_map (λ n. neg_ℤ (pos n)) (limited 0 (2 ^ 63) bs) else option_map pos (limited 0 (2 ^ 63 - 1) (b ∷ bs))

-- the codes of faults

abbrev pub error_of : Result RunItem ℕ → Option ℕ
error_of (Ok i) = None
error_of (Err code) = Some code

abbrev pub input_fault : List ℕ → Option ℕ
input_fault [] = Some 3
input_fault (b ∷ bs) = None

abbrev pub number_fault : List ℕ → Option ℕ
number_fault word = if is_none (integer_of word) then Some 3 else None

-- What is wrong with each word: with those before the input, with the input, and with those after it. Where there is no input, the
-- word that is missing has the last fault.
unfoldable pub faults_of : List (List ℕ) → List (Option ℕ)
faults_of [] = Some 1 ∷ []
faults_of (w ∷ ws) = if is_option w then error_of (option_of w) ∷ faults_of ws else input_fault w ∷ map number_fault ws

-- the first fault, where the first of these words has this number
unfoldable pub first_from : ℕ → List (Option ℕ) → Option UsageFault
first_from word [] = None
first_from word (None ∷ fs) = first_from (word + 1) fs
first_from word (Some code ∷ fs) = Some (record { word = word; code = code })

-- what lawful words ask for

abbrev pub turns_in : RunItem → Option ℕ
turns_in (Turns n) = Some n
turns_in i = None

abbrev pub mode_in : RunItem → Option Mode
mode_in (ModeItem mode) = Some mode
mode_in i = None

abbrev pub picked : {A : Type 0} → (RunItem → Option A) → Result RunItem ℕ → Option A
picked pick (Ok i) = pick i
picked pick (Err code) = None

-- what the last option of one kind says, of those before the input
unfoldable pub last_said : {A : Type 0} → (RunItem → Option A) → List (List ℕ) → Option A
last_said pick [] = None
last_said pick (w ∷ ws) = if is_option w then option_or (last_said pick ws) (picked pick (option_of w)) else None

-- how many options come before the input
unfoldable pub options_before : List (List ℕ) → ℕ
options_before [] = 0
options_before (w ∷ ws) = if is_option w then options_before ws + 1 else 0

-- settings, after one option more
abbrev pub said : Settings → RunItem → Settings
said s (Turns n) = record s { turns = n }
said s (ModeItem mode) = record s { mode = mode }

-- settings, after the options before the input
unfoldable pub said_by : Settings → List (List ℕ) → Settings
said_by s words = record { turns = unwrap_or (last_said turns_in words) s.turns; mode = unwrap_or (last_said mode_in words) s.mode }

abbrev pub asked : Settings → ℕ → RunOptions
asked s place = record { turns = s.turns; mode = s.mode; source = Word (place + 1) 0; first = place + 1 }

abbrev pub unless_faulty : Option UsageFault → RunOptions → Result RunOptions UsageFault
unless_faulty None o = Ok o
unless_faulty (Some f) o = Err f

-- What words ask for, or their first fault, where so many words came before them and ask for these settings.
unfoldable pub run_words_from : Settings → ℕ → List (List ℕ) → Result RunOptions UsageFault
run_words_from s place words =
    unless_faulty (first_from (place + 1) (faults_of words)) (asked (said_by s words) (place + options_before words))

-- the same where the next word is the input
unfoldable pub input_from : Settings → ℕ → List ℕ → List (List ℕ) → Result RunOptions UsageFault
input_from s place input numbers = unless_faulty (first_from (place + 1) (input_fault input ∷ map number_fault numbers)) (asked s place)

-- what the words ask for, or their first fault
unfoldable pub run_words_of : List (List ℕ) → Result RunOptions UsageFault
run_words_of words = run_words_from (record { turns = 1000000; mode = Trap }) 0 words

abbrev pub number_or_zero : List ℕ → ℤ
number_or_zero word = unwrap_or (integer_of word) (pos 0)

-- the numbers after so many words
abbrev pub inputs_of : List (List ℕ) → ℕ → List ℤ
inputs_of words first = map number_or_zero (drop first words)
