use Rattle.std.proofs.Common.{◌≡◌, ◌<◌, ◌++◌, [], length, drop, sym, ap, ◌∙◌, arith}
use Rattle.std.proofs.lemmas.Grind.{common_steps}
use Rattle.ipa_dumps.specs.Classes.{members_from, class_at}
use Rattle.ipa_dumps.proofs.ClassLines.{group_at, one_more_class, no_more_classes}
use Rattle.ipa_dumps.proofs.classes.push_classes.Goals as goal

pub loop-function-preserved : goal.loop-function-preserved
loop-function-preserved g c =
    let p = c.args.program.now in
    let classes = g.V.ClassView.classes c.args.view.now in
    let n = length classes in
    let k = c.loop-function.function in
    let class = c.class_of-class.result in
    let text = c.loop-function.text in
    let count = c.requires.groups.count in
    let low : k < length classes = omega (arith, count, c.loop-function-test.true) in
    let within : class < n = rw c.class_of-class.ensures (c.requires.numbers k low) in
    let row : c.as_slice.result.now ≡ members_from classes class 0 = c.as_slice.ensures ∙ group_at classes n c.args.groups.now class c.index-groups-class.result c.requires.groups within c.index-groups-class.is in
    let said : c.push_class_at.new.text ≡ text ++ class_at p class k (members_from classes class 0) = c.in_ok-push_class_at.ensures ∙ ap (λ ms. text ++ class_at p class k ms) row in
    rw said (one_more_class p classes k class text low c.class_of-class.ensures ∙ c.loop-function.invariant)

pub returns : goal.returns
returns g c =
    let p = c.args.program.now in
    let classes = g.V.ClassView.classes c.args.view.now in
    let k = c.loop-function.function in
    let text = c.loop-function.text in
    let count = c.requires.groups.count in
    let past : length classes ≡ k = omega (arith, count, c.loop-function-test.false) in
    let all : drop k classes ≡ [] = grind (arith, common_steps) in
    sym (no_more_classes p classes k text all) ∙ c.loop-function.invariant
