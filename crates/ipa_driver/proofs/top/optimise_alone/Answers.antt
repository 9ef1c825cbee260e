use Rattle.std.proofs.Common.{rules, ◌≡◌, Ok, Err, sym, subst}
use Rattle.shelf.specs.Outside.{Meaning}
use Rattle.words.specs.Words.{options_of}
use Rattle.words.specs.declared.options.Options.{Options}
use Rattle.ipa_driver.specs.declared.finish.Finish.{Finish}
use Rattle.ipa_driver.specs.declared.tool.Tool.TheVariants.{Optimiser}
use Rattle.ipa_driver.specs.Stores.{AreOutputs}
use Rattle.ipa_driver.specs.Answers.{TopAnswers}
use Rattle.ipa_driver.specs.Work.{MessageTold}
use Rattle.ipa_driver.proofs.AnswerLaws.{top_done, top_failed, top_misused}
use Rattle.ipa_driver.proofs.top.optimise_alone.Goals as goal

pub returns-in-Ok-work : goal.returns-in-Ok-work
returns-in-Ok-work g c =
    let old : Meaning = g.S.Shelf.meaning c.args.shelf.now in
    let new : Meaning = g.S.Shelf.meaning c.work.new.shelf in
    let words = c.args.words.now in
    let o = c.in-Ok.options in
    let lawful : options_of words ≡ Ok o = search rules in
    top_done Optimiser words (options_of words) (λ (o : Options). o.source) AreOutputs old new new o lawful c.in-Ok-work.ensures.answer

pub returns-in-Err-work : goal.returns-in-Err-work
returns-in-Err-work g c =
    let old : Meaning = g.S.Shelf.meaning c.args.shelf.now in
    let mid : Meaning = g.S.Shelf.meaning c.work.new.shelf in
    let new : Meaning = g.S.Shelf.meaning c.tell.new.shelf in
    let words = c.args.words.now in
    let o = c.in-Ok.options in
    let fault = c.in-Err-work.fault in
    let lawful : options_of words ≡ Ok o = search rules in
    let told = subst (λ input. MessageTold Optimiser input words fault mid new) c.input_name-input.ensures c.tell.ensures.told in
    let ends = top_failed Optimiser words (options_of words) (λ (o : Options). o.source) AreOutputs old mid new o fault lawful c.in-Err-work.ensures.keeps c.in-Err-work.ensures.answer c.in-Err-work.ensures.sure told in
    subst (λ (f : Finish). TopAnswers Optimiser words (options_of words) (λ (o : Options). o.source) AreOutputs old new f) (sym c.tell.ensures.finish) ends

pub returns-in-Err : goal.returns-in-Err
returns-in-Err g c =
    let old : Meaning = g.S.Shelf.meaning c.args.shelf.now in
    let new : Meaning = g.S.Shelf.meaning c.tell-in-Err.new.shelf in
    let words = c.args.words.now in
    let f = c.in-Err.fault in
    let faulty : options_of words ≡ Err f = search rules in
    let ends = top_misused Optimiser words (options_of words) (λ (o : Options). o.source) AreOutputs old old new f faulty c.tell-in-Err.ensures.told in
    subst (λ (f : Finish). TopAnswers Optimiser words (options_of words) (λ (o : Options). o.source) AreOutputs old new f) (sym c.tell-in-Err.ensures.finish) ends
