use Rattle.std.proofs.Common.{subst}
use Rattle.shelf.specs.Outside.{Meaning}
use Rattle.ipa_driver.specs.Work.{LoadsText, Judges}
use Rattle.ipa_driver.proofs.AnswerLaws.{judged}
use Rattle.ipa_driver.proofs.load.load_file.Goals as goal

pub returns-clause-answer : goal.returns-clause-answer
returns-clause-answer g c =
    let old : Meaning = g.S.Shelf.meaning c.args.shelf.now in
    let new : Meaning = g.S.Shelf.meaning c.fetch_text.new.shelf in
    let text = c.in_ok-text.text in
    let words = c.args.words.now in
    let name = c.args.name.now in
    judged words name c.args.mode old new text c.judge.result
    (subst (λ n. LoadsText n old new text) c.name_bytes.ensures c.in_ok-text.ensures.text)
    (subst (λ t. Judges t c.args.mode c.judge.result) c.as_slice.ensures c.judge.ensures)
