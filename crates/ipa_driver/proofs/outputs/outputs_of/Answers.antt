use Rattle.std.proofs.Common.{rules, ◌≡◌, subst}
use Rattle.gimple_core.specs.Sealed.{Sealed}
use Rattle.ipa_driver.specs.declared.passes.Asked.{Asked}
use Rattle.ipa_driver.specs.Pipeline.{IsMade}
use Rattle.ipa_driver.specs.Stores.{asked_of, asked_outputs, output_rows}
use Rattle.gimple_text.proofs.Laws.{canon_spells}
use Rattle.ipa_driver.proofs.outputs.outputs_of.Goals as goal

pub returns : goal.returns
unfolding asked_outputs output_rows
returns c =
    let o = c.args.options.now in
    let p : Sealed = record { program = c.args.program.program; mode = o.mode } in
    let own : c.args.program ≡ p = λ i. record { program = c.args.program.program; mode = c.requires.mode i } in
    let product = c.in_ok-product.product in
    let asked : c.asked_of-asked.result ≡ asked_of o = search rules in
    let here : IsMade p c.asked_of-asked.result o.passes o.params product = subst (λ (s : Sealed). IsMade s c.asked_of-asked.result o.passes o.params product) own c.in_ok-product.ensures.made in
    let made : IsMade p (asked_of o) o.passes o.params product = subst (λ (a : Asked). IsMade p a o.passes o.params product) asked here in
    record {
      product = product;
      made = made;
      spelled = canon_spells product.program.program (c.in_ok-product.ensures.spellable c.requires.spellable);
      texts = search rules;
    }
