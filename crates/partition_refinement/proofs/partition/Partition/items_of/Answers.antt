use Rattle.partition_refinement.proofs.Steps.{items_found}
use Rattle.partition_refinement.proofs.partition.Partition.items_of.Goals as goal

pub returns : goal.returns
returns c = items_found c.self.inside.classes.items c.as_slice.result.now c.args.self.now c.self.inside.members c.args.class c.list.result.now c.in_ok-items.items.items c.self.invariant c.as_slice.ensures.value c.self.view_is c.list.ensures c.in_ok-items.ensures
