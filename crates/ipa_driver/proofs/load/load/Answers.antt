use Rattle.std.proofs.Common.{ℕ, sym, subst}
use Rattle.gimple_core.specs.Sealed.{Sealed}
use Rattle.words.specs.declared.options.SourceName.{SourceName}
use Rattle.words.specs.declared.options.SourceName.TheVariants.{Generate}
use Rattle.words.specs.Limits.{IsLawfulSource}
use Rattle.shelf.specs.Outside.{Meaning}
use Rattle.ipa_driver.specs.Work.{IsLoaded}
use Rattle.ipa_driver.proofs.WorkLaws.{generated_loaded}
use Rattle.ipa_driver.proofs.load.load.Goals as goal

pub returns-in-Ok-clause-answer : goal.returns-in-Ok-clause-answer
returns-in-Ok-clause-answer g c =
    let old : Meaning = g.S.Shelf.meaning c.args.shelf.now in
    let n : ℕ = c.in-Generate.functions in
    let lawful : IsLawfulSource (Generate n) = subst IsLawfulSource c.in-Generate.is c.requires in
    subst (λ (s : Sealed). IsLoaded c.args.words.now c.args.source.now c.args.mode old old s) (sym c.seal_as.ensures)
    (subst (λ (source : SourceName). IsLoaded c.args.words.now source c.args.mode old old (record { program = c.in-Ok.program; mode = c.args.mode })) (sym c.in-Generate.is)
    (generated_loaded c.args.words.now n c.args.mode old c.in-Ok.program lawful c.in-Ok.ensures.exact c.in-Ok.ensures.spellable c.in-Ok.ensures.countable))
