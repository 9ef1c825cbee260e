use Rattle.std.proofs.Common.{subst}
use Rattle.gimple_exec.specs.Order.{Follows, comes_before}
use Rattle.gimple_exec.proofs.OrderLemmas.{ordered_pushed}
use Rattle.gimple_exec.proofs.SeekLemmas.{placed_chains}
use Rattle.gimple_exec.proofs.rows.Rows.push.Goals as goal

pub invariant_of-self-2 : goal.invariant_of-self-2
invariant_of-self-2 g c =
    let before = comes_before g.T.Placed.object_of g.T.Placed.offset_of in
    λ ordered. ordered_pushed before (placed_chains g.T.Placed.object_of g.T.Placed.offset_of) _ _ _ _ c.push.ensures.items (c.self.invariant (c.stays_ordered-self-inside.ensures.ordered ordered))
    (subst (λ xs. Follows before xs c.args.item) c.as_slice.ensures.value (c.stays_ordered-self-inside.ensures.follows ordered))
