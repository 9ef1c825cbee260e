use Rattle.std.proofs.Common.{rules, ◌≡◌, Ok, Err, sym, subst}
use Rattle.shelf.specs.Outside.{Meaning}
use Rattle.words.specs.RunWords.{run_words_of}
use Rattle.ipa_driver.specs.declared.finish.Finish.{Finish}
use Rattle.ipa_driver.specs.declared.tool.Tool.TheVariants.{Runner}
use Rattle.ipa_driver.specs.RunAnswers.{IsRunOutput, run_source}
use Rattle.ipa_driver.specs.Answers.{TopAnswers}
use Rattle.ipa_driver.specs.Work.{MessageTold}
use Rattle.ipa_driver.proofs.AnswerLaws.{top_done, top_failed, top_misused}
use Rattle.ipa_driver.proofs.run_top.run_program.Goals as goal

pub returns-in-Ok-work : goal.returns-in-Ok-work
returns-in-Ok-work g c =
    let old : Meaning = g.S.Shelf.meaning c.args.shelf.now in
    let new : Meaning = g.S.Shelf.meaning c.work.new.shelf in
    let words = c.args.words.now in
    let o = c.in-Ok.options in
    let lawful : run_words_of words ≡ Ok o = search rules in
    top_done Runner words (run_words_of words) run_source (IsRunOutput words) old new new o lawful c.in-Ok-work.ensures.answer

pub returns-in-Err-work : goal.returns-in-Err-work
returns-in-Err-work g c =
    let old : Meaning = g.S.Shelf.meaning c.args.shelf.now in
    let mid : Meaning = g.S.Shelf.meaning c.work.new.shelf in
    let new : Meaning = g.S.Shelf.meaning c.tell.new.shelf in
    let words = c.args.words.now in
    let o = c.in-Ok.options in
    let fault = c.in-Err-work.fault in
    let lawful : run_words_of words ≡ Ok o = search rules in
    let told = subst (λ input. MessageTold Runner input words fault mid new) c.name_bytes-input.ensures c.tell.ensures.told in
    let ends = top_failed Runner words (run_words_of words) run_source (IsRunOutput words) old mid new o fault lawful c.in-Err-work.ensures.keeps c.in-Err-work.ensures.answer c.in-Err-work.ensures.sure told in
    subst (λ (f : Finish). TopAnswers Runner words (run_words_of words) run_source (IsRunOutput words) old new f) (sym c.tell.ensures.finish) ends

pub returns-in-Err : goal.returns-in-Err
returns-in-Err g c =
    let old : Meaning = g.S.Shelf.meaning c.args.shelf.now in
    let new : Meaning = g.S.Shelf.meaning c.tell-in-Err.new.shelf in
    let words = c.args.words.now in
    let f = c.in-Err.fault in
    let faulty : run_words_of words ≡ Err f = search rules in
    let ends = top_misused Runner words (run_words_of words) run_source (IsRunOutput words) old old new f faulty c.tell-in-Err.ensures.told in
    subst (λ (f : Finish). TopAnswers Runner words (run_words_of words) run_source (IsRunOutput words) old new f) (sym c.tell-in-Err.ensures.finish) ends
