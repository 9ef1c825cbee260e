use Rattle.std.proofs.Common.{◌≡◌, ◌+◌, ◌<◌, ◌++◌, ◌∷◌, [], length, get_or, take, slice_set, sym, ap, ◌∙◌, subst, arith}
use Rattle.std.proofs.lemmas.List.{get_or_default}
use Rattle.ipa_dumps.specs.Groups.{AreGroups}
use Rattle.ipa_dumps.proofs.ClassLines.{group_more}
use Rattle.ipa_dumps.proofs.classes.members_by_class.Goals as goal

pub loop-function-preserved : goal.loop-function-preserved
loop-function-preserved g c =
    let classes = g.V.ClassView.classes c.args.view.now in
    let n = c.args.functions in
    let i = c.loop-function.function in
    let class = c.class_of-class.result in
    let groups = c.loop-function.groups.items in
    let low : i < length classes = omega (arith, c.requires.count, c.loop-function-test.true) in
    let within : class < n = rw c.class_of-class.ensures (c.requires.numbers i low) in
    let old = c.index_mut.result.now in
    let long : class < length groups = omega (arith, within, c.loop-function.invariant.count) in
    let made : c.push.new.self ≡ get_or groups class [] ++ i ∷ [] =
    c.in_ok-push.ensures.ok ∙ ap (λ row. row ++ i ∷ []) (c.index_mut.ensures.value ∙ get_or_default groups class old [] long) in
    subst (λ row. AreGroups (take (i + 1) classes) n (slice_set groups class row)) (sym made) (group_more classes n i class groups c.loop-function.invariant low c.class_of-class.ensures within)
