use Rattle.std.proofs.Common.{◌≡◌, ◌<◌, ◌++◌, [], length, get_or, drop, sym, ap, ◌∙◌, arith}
use Rattle.std.proofs.lemmas.Grind.{common_steps}
use Rattle.ipa_dumps.specs.Dumps.{component_text}
use Rattle.ipa_dumps.proofs.Lines.{one_more, no_more}
use Rattle.ipa_dumps.proofs.cgraph.push_components.Goals as goal

pub loop-component-preserved : goal.loop-component-preserved
loop-component-preserved g c =
    let p = c.args.program.now in
    let cs = (g.V.GraphView.graph c.args.view.now).components in
    let k = c.loop-component.component in
    let text = c.loop-component.text in
    let low : k < length cs = omega (arith, c.loop-component-test.true, c.components-component-end.ensures) in
    let said : c.push_component.new.text ≡ text ++ component_text p k (get_or cs k []) = c.in_ok-push_component.ensures ∙ ap (λ ms. text ++ component_text p k ms) c.members.ensures in
    rw said (one_more p k cs text low ∙ c.loop-component.invariant)

pub returns : goal.returns
returns g c =
    let p = c.args.program.now in
    let cs = (g.V.GraphView.graph c.args.view.now).components in
    let k = c.loop-component.component in
    let text = c.loop-component.text in
    let all : drop k cs ≡ [] = grind (arith, common_steps) in
    sym (no_more p k cs text all) ∙ c.loop-component.invariant
