use Rattle.std.proofs.Common.{map, subst, length}
use Rattle.partition_refinement.specs.Splitting.{IsGrouping}
use Rattle.partition_refinement.proofs.Regarding.{groups_regarded}
use Rattle.partition_refinement.proofs.groups.groups_of.Goals as goal

pub returns : goal.returns
returns c = groups_regarded (map (λ row. row.items) c.args.rows.now) c.args.classes.now c.args.items.now c.in_ok-numbers.numbers.items c.in_ok-groups.groups c.in_ok-numbers.ensures.count c.in_ok-numbers.ensures.same (subst (λ ns. IsGrouping c.args.items.now ns (length c.args.items.now) c.in_ok-groups.groups) c.as_slice.ensures.value c.in_ok-groups.ensures)
