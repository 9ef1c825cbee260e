use Rattle.std.proofs.Common.{◌≡◌, arith, length, ap, subst}
use Rattle.partition_refinement.specs.Splitting.{IsMoved}
use Rattle.partition_refinement.proofs.Regarding.{moved_set}
use Rattle.partition_refinement.proofs.Steps.{members_out}
use Rattle.partition_refinement.proofs.partition.Partition.move_out.Goals as goal

pub set_all-requires : goal.set_all-requires
set_all-requires c = λ x d.
    let low = c.requires x d in
    let size : length c.self.inside.classes.items ≡ length c.args.self.now = ap length c.self.view_is in
    omega (arith, low, size)

pub invariant_of-self-2 : goal.invariant_of-self-2
invariant_of-self-2 c = members_out c.self.inside.classes.items c.self.inside.members c.add.new.self c.args.items.now c.in_ok-list.list.items c.set_all.new.classes.items c.len-to.result c.self.invariant c.set_all.ensures c.len-to.ensures c.in_ok-add.ensures.added c.in_ok-list.ensures.items

pub returns : goal.returns
returns c = subst (λ v. IsMoved v c.args.items.now c.set_all.new.classes.items) c.self.view_is (moved_set c.self.inside.classes.items c.args.items.now c.len-to.result c.set_all.new.classes.items c.set_all.ensures)
