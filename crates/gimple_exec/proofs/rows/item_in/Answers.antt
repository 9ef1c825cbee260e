use Rattle.std.proofs.Common.{◌∙◌, ap, sym, Some, arith}
use Rattle.gimple_exec.specs.Order.{comes_before}
use Rattle.gimple_exec.proofs.OrderLemmas.{first_here}
use Rattle.gimple_exec.proofs.SeekLemmas.{placed_seeks}
use Rattle.gimple_exec.proofs.rows.item_in.Goals as goal

pub returns : goal.returns
returns g c =
    let before = comes_before g.T.Placed.object_of g.T.Placed.offset_of in
    λ t m.
    (first_here before t (g.T.Placed.matches t) (placed_seeks g.T.Placed.object_of g.T.Placed.offset_of g.T.Placed.matches g.met.T.Placed.matches_there t) c.args.items.now c.args.at c.index-items-at.result c.requires (omega (arith, c.if-at-items.false)) (ap (g.T.Placed.matches t) (sym c.index-items-at.is) ∙ m)).found c.index-items-at.result
    ∙ ap Some (sym c.index-items-at.is)
