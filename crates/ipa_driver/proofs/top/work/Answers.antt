use Rattle.std.proofs.Common.{sym, subst}
use Rattle.shelf.specs.Outside.{Meaning}
use Rattle.ipa_driver.specs.Stores.{AreOutputs}
use Rattle.ipa_driver.proofs.WorkLaws.{done, not_written, sure_done, sure_failed}
use Rattle.ipa_driver.proofs.top.work.Goals as goal

pub returns-clause-answer : goal.returns-clause-answer
returns-clause-answer g c =
    let old : Meaning = g.S.Shelf.meaning c.args.shelf.now in
    let mid : Meaning = g.S.Shelf.meaning c.load.new.shelf in
    let new : Meaning = g.S.Shelf.meaning c.store_all.new.shelf in
    let o = c.args.options.now in
    let checked = c.in_ok-program.program in
    let loaded = c.in_ok-program.ensures in
    let stored = c.in-Err-store_all.ensures in
    let made = subst (λ os. AreOutputs o checked.program os) (sym c.deref.ensures.value) c.in-Ok.ensures in
    not_written c.args.words.now o.source o.mode (AreOutputs o) old mid new checked c.deref.result.now loaded.loads loaded.answer made stored.only c.in-Err-store_all.name stored.answer

pub returns-clause-sure : goal.returns-clause-sure
returns-clause-sure g c =
    let old : Meaning = g.S.Shelf.meaning c.args.shelf.now in
    let mid : Meaning = g.S.Shelf.meaning c.load.new.shelf in
    let new : Meaning = g.S.Shelf.meaning c.store_all.new.shelf in
    let o = c.args.options.now in
    let checked = c.in_ok-program.program in
    let loaded = c.in_ok-program.ensures in
    let stored = c.in-Err-store_all.ensures in
    let made = subst (λ os. AreOutputs o checked.program os) (sym c.deref.ensures.value) c.in-Ok.ensures in
    sure_failed c.args.words.now o.source o.mode (AreOutputs o) old mid new checked c.deref.result.now loaded.loads loaded.answer made stored.only c.in-Err-store_all.name stored.sure

pub returns-in-Ok-store_all-clause-answer : goal.returns-in-Ok-store_all-clause-answer
returns-in-Ok-store_all-clause-answer g c =
    let old : Meaning = g.S.Shelf.meaning c.args.shelf.now in
    let mid : Meaning = g.S.Shelf.meaning c.load.new.shelf in
    let new : Meaning = g.S.Shelf.meaning c.store_all.new.shelf in
    let o = c.args.options.now in
    let checked = c.in_ok-program.program in
    let loaded = c.in_ok-program.ensures in
    let stored = c.in-Ok-store_all.ensures in
    let made = subst (λ os. AreOutputs o checked.program os) (sym c.deref.ensures.value) c.in-Ok.ensures in
    done c.args.words.now o.source o.mode (AreOutputs o) old mid new checked c.deref.result.now loaded.loads loaded.answer made stored.only stored.answer

pub returns-in-Ok-store_all-clause-sure : goal.returns-in-Ok-store_all-clause-sure
returns-in-Ok-store_all-clause-sure g c =
    let old : Meaning = g.S.Shelf.meaning c.args.shelf.now in
    let mid : Meaning = g.S.Shelf.meaning c.load.new.shelf in
    let new : Meaning = g.S.Shelf.meaning c.store_all.new.shelf in
    let o = c.args.options.now in
    let checked = c.in_ok-program.program in
    let loaded = c.in_ok-program.ensures in
    let stored = c.in-Ok-store_all.ensures in
    let made = subst (λ os. AreOutputs o checked.program os) (sym c.deref.ensures.value) c.in-Ok.ensures in
    sure_done c.args.words.now o.source o.mode (AreOutputs o) old mid new checked c.deref.result.now loaded.loads loaded.answer made stored.only stored.sure
