use Rattle.std.proofs.Common.{◌-◌, take, length, drop, rules, sym, subst, MatchResult}
use Rattle.ipa_driver.specs.Stores.{AreStored, IsStoreFault}
use Rattle.ipa_driver.proofs.StoreLaws.{first_and_rest, answer-more, fault-first}
use Rattle.ipa_driver.proofs.outputs.+store_all.Goals as goal

pub returns-in-Done-clause-answer : goal.returns-in-Done-clause-answer
returns-in-Done-clause-answer g t c =
    let e = first_and_rest c.args.outputs.now c.first-item.result c.in-len1-up.len_at_least c.first-item.is in
    let old = g.S.Shelf.meaning c.args.shelf.now in
    let mid = g.S.Shelf.meaning c.store.new.self in
    let new = g.S.Shelf.meaning c.store_all.new.shelf in
    let h = answer-more c.args.words.now c.first-item.result (take (length c.args.outputs.now - 1) (drop 1 c.args.outputs.now)) old mid new (search rules) (search rules) c.store_all.result c.store_all.ensures.answer in
    subst (λ o. MatchResult c.store_all.result (λ _. AreStored c.args.words.now o old new) (IsStoreFault c.args.words.now o old new)) (sym e) h

pub returns-in-Failed-clause-answer : goal.returns-in-Failed-clause-answer
returns-in-Failed-clause-answer g t c =
    let e = first_and_rest c.args.outputs.now c.first-item.result c.in-len1-up.len_at_least c.first-item.is in
    let h = fault-first c.args.words.now c.first-item.result (take (length c.args.outputs.now - 1) (drop 1 c.args.outputs.now)) (g.S.Shelf.meaning c.args.shelf.now) (g.S.Shelf.meaning c.store.new.self) (search rules) (search rules) in
    subst (λ o. IsStoreFault c.args.words.now o (g.S.Shelf.meaning c.args.shelf.now) (g.S.Shelf.meaning c.store.new.self) c.first-item.result.name) (sym e) h
