-- From one word of `gimple-run` to the next.
use Rattle.std.proofs.Common.{◌≡◌, ℕ, suc, ◌+◌, List, [], ◌∷◌, map, true, false, Option, Some, None, Ok, Err, refl, ap, sym, ◌∙◌, arith, length, take, drop, get_or, ◌-◌, ◌<◌, length-drop}
use Rattle.std.proofs.Math.Seq.{drop-cons, take-length}
use Rattle.std.specs.Prelude.{is_none, unwrap_or}
use Rattle.std.specs.Option.{option_or}
use Rattle.words.specs.declared.run_options.RunItem.{RunItem}
use Rattle.words.specs.declared.run_options.RunItem.TheVariants.{Turns, Mode as ModeItem}
use Rattle.words.specs.declared.run_options.Settings.{Settings}
use Rattle.words.specs.RunWords.{is_option, option_of, turns_in, mode_in, last_said, said, said_by, options_before, faults_of, first_from, integer_of, number_fault, run_words_from, input_from}

last_counts : {A : Type 0} (later now : Option A) (before : A) → unwrap_or (option_or later now) before ≡ unwrap_or later (unwrap_or now before)
last_counts None now before = refl
last_counts (Some n) now before = refl

one_more : {A : Type 0} (pick : RunItem → Option A) (w : List ℕ) (ws : List (List ℕ)) (i : RunItem) → is_option w ≡ true → option_of w ≡ Ok i → last_said pick (w ∷ ws) ≡ option_or (last_said pick ws) (pick i)
unfolding last_said
one_more pick w ws i o e = rw (o, e) refl

said_more : (s : Settings) (i : RunItem) (w : List ℕ) (ws : List (List ℕ)) → is_option w ≡ true → option_of w ≡ Ok i → said_by s (w ∷ ws) ≡ said_by (said s i) ws
unfolding said_by
said_more s (Turns n) w ws o e =
    rw (one_more turns_in w ws (Turns n) o e, one_more mode_in w ws (Turns n) o e, last_counts (last_said turns_in ws) (Some n) s.turns, last_counts (last_said mode_in ws) None s.mode) refl
said_more s (ModeItem mode) w ws o e =
    rw (one_more turns_in w ws (ModeItem mode) o e, one_more mode_in w ws (ModeItem mode) o e, last_counts (last_said turns_in ws) None s.turns, last_counts (last_said mode_in ws) (Some mode) s.mode) refl

-- the words after a lawful option
pub after_option : (s : Settings) (place : ℕ) (i : RunItem) (w : List ℕ) (ws : List (List ℕ)) → is_option w ≡ true → option_of w ≡ Ok i → run_words_from s place (w ∷ ws) ≡ run_words_from (said s i) (place + 1) ws
unfolding run_words_from faults_of options_before first_from
after_option s place i w ws o e =
    let sum : place + (options_before ws + 1) ≡ place + 1 + options_before ws = omega arith in
    rw (said_more s i w ws o e) (rw (o, e, sum) refl)

pub at_fault : (s : Settings) (place code : ℕ) (w : List ℕ) (ws : List (List ℕ)) → is_option w ≡ true → option_of w ≡ Err code → run_words_from s place (w ∷ ws) ≡ Err (record { word = place + 1; code = code })
unfolding run_words_from faults_of first_from
at_fault s place code w ws o e = rw (o, e) refl

pub at_input : (s : Settings) (place : ℕ) (w : List ℕ) (ws : List (List ℕ)) → is_option w ≡ false → run_words_from s place (w ∷ ws) ≡ input_from s place w ws
unfolding run_words_from input_from faults_of said_by last_said options_before
at_input s place w ws o = let none : place + 0 ≡ place = omega arith in rw (o, none) refl

pub no_input : (s : Settings) (place : ℕ) → run_words_from s place [] ≡ Err (record { word = place + 1; code = 1 })
unfolding run_words_from faults_of first_from
no_input s place = refl

-- the words after an input number
pub after_number : (word : ℕ) (w : List ℕ) (ws : List (List ℕ)) → is_none (integer_of w) ≡ false → first_from word (map number_fault (w ∷ ws)) ≡ first_from (word + 1) (map number_fault ws)
unfolding first_from
after_number word w ws e = rw e refl

pub at_no_number : (word : ℕ) (w : List ℕ) (ws : List (List ℕ)) → is_none (integer_of w) ≡ true → first_from word (map number_fault (w ∷ ws)) ≡ Some (record { word = word; code = 3 })
unfolding first_from
at_no_number word w ws e = rw e refl

-- the words from a place on, as an index and a range of them have them
pub at_place : (words : List (List ℕ)) (place : ℕ) (w : List ℕ) → place < length words → w ≡ get_or words place w → drop place words ≡ w ∷ drop (place + 1) words
at_place words place w h e =
    let next : suc place ≡ place + 1 = omega arith in
    drop-cons words place w h ∙ ap (λ n. get_or words place w ∷ drop n words) next ∙ ap (λ x. x ∷ drop (place + 1) words) (sym e)

pub range_is : (words : List (List ℕ)) (from : ℕ) → take (length words - from) (drop from words) ≡ drop from words
range_is words from = let n : length words - from ≡ length (drop from words) = sym (length-drop from words) in rw n (take-length (drop from words))
