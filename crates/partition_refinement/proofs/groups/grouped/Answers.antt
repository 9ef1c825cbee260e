use Rattle.std.proofs.Common.{arith, length, refl, subst, ◌≡◌}
use Rattle.std.proofs.lemmas.List.{get_or_default}
use Rattle.partition_refinement.specs.Splitting.{IsGrouping}
use Rattle.partition_refinement.proofs.Steps.{group_step, put_size}
use Rattle.partition_refinement.proofs.groups.grouped.Goals as goal

pub push-requires : goal.push-requires
push-requires c =
    let low = c.requires.low c.loop-place.place c.loop-place-test.true in
    let many = c.requires.count in
    let value = get_or_default c.args.numbers.now c.loop-place.place 0 c.loop-place.place (omega (arith, many, c.loop-place-test.true)) in
    let count = c.loop-place.invariant.count in
    omega (arith, low, value, count, c.loop-place-test.true)

pub loop-place-preserved : goal.loop-place-preserved
loop-place-preserved c =
    let low = c.requires.low c.loop-place.place c.loop-place-test.true in
    let many = c.requires.count in
    let value = get_or_default c.args.numbers.now c.loop-place.place 0 c.loop-place.place (omega (arith, many, c.loop-place-test.true)) in
    let count = c.loop-place.invariant.count in
    record {
      groups = group_step c.args.items.now c.args.numbers.now c.loop-place.place _ _ c.loop-place.groups c.push.new.self c.loop-place.invariant.groups refl refl (omega (arith, low, value, count, c.loop-place-test.true)) c.in_ok-push.ensures;
      count = put_size c.loop-place.groups c.push.new.self _ _ (length c.args.items.now) count c.in_ok-push.ensures;
    }

pub returns : goal.returns
returns c =
    let end = c.loop-place.auto.place-end in
    let last : c.loop-place.place ≡ length c.args.items.now = omega (arith, end, c.loop-place-test.false) in
    subst (λ n. IsGrouping c.args.items.now c.args.numbers.now n c.loop-place.groups) last c.loop-place.invariant.groups
