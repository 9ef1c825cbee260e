use Rattle.std.proofs.Common.{rules, ◌≡◌, ◌+◌, drop, sym, ◌∙◌, true, false, Ok, Err, length}
use Rattle.std.proofs.Math.Seq.{drop-length}
use Rattle.words.specs.RunWords.{is_option, option_of, input_from, run_words_of}
use Rattle.words.proofs.RunLaws.{at_place, range_is, after_option, at_fault, at_input, no_input}
use Rattle.words.proofs.run_words.read_run_words.Goals as goal

-- src/run_words.rt:27:13
pub returns-then-not-is_option : goal.returns-then-not-is_option
returns-then-not-is_option c =
    let words = c.args.words.now in
    let place = c.loop-place.place in
    let w = c.index-words-place.result in
    let e = at_place words place w c.loop-place-test.true c.index-words-place.is in
    let plain : is_option w ≡ false = search rules in
    let here : run_words_of words ≡ input_from c.loop-place.settings place w (drop (place + 1) words) = c.loop-place.invariant ∙ rw e (at_input c.loop-place.settings place w (drop (place + 1) words) plain) in
    c.from_input.ensures ∙ rw (c.as_slice-then-not-is_option.ensures, range_is words (place + 1)) (sym here)

-- src/run_words.rt:32:17
pub returns-in-Err : goal.returns-in-Err
returns-in-Err c =
    let words = c.args.words.now in
    let place = c.loop-place.place in
    let w = c.index-words-place.result in
    let e = at_place words place w c.loop-place-test.true c.index-words-place.is in
    let option : is_option w ≡ true = search rules in
    let faulty : option_of w ≡ Err c.in-Err.code = search rules in
    sym (c.loop-place.invariant ∙ rw e (at_fault c.loop-place.settings place c.in-Err.code w (drop (place + 1) words) option faulty))

-- src/run_words.rt:25:5
pub loop-place-preserved : goal.loop-place-preserved
loop-place-preserved c =
    let words = c.args.words.now in
    let place = c.loop-place.place in
    let w = c.index-words-place.result in
    let e = at_place words place w c.loop-place-test.true c.index-words-place.is in
    let option : is_option w ≡ true = search rules in
    let lawful : option_of w ≡ Ok c.in-Ok.item = search rules in
    c.loop-place.invariant ∙ rw (e, c.with-settings.ensures) (after_option c.loop-place.settings place c.in-Ok.item w (drop (place + 1) words) option lawful)

-- src/run_words.rt:20:1
pub returns : goal.returns
returns c =
    let words = c.args.words.now in
    let place : c.loop-place.place ≡ length words = search rules in
    sym (c.loop-place.invariant ∙ rw (place, drop-length words) (no_input c.loop-place.settings (length words)))
