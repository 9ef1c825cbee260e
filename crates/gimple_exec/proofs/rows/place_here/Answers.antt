use Rattle.std.proofs.Common.{◌∙◌, ap, sym, arith}
use Rattle.gimple_exec.specs.Order.{comes_before}
use Rattle.gimple_exec.proofs.OrderLemmas.{first_here}
use Rattle.gimple_exec.proofs.SeekLemmas.{placed_seeks}
use Rattle.gimple_exec.proofs.rows.place_here.Goals as goal

pub returns-then-matches : goal.returns-then-matches
returns-then-matches g c =
    let before = comes_before g.T.Placed.object_of g.T.Placed.offset_of in
    let t = c.args.sought.now in
    let seeks = placed_seeks g.T.Placed.object_of g.T.Placed.offset_of g.T.Placed.matches g.met.T.Placed.matches_there t in
    first_here before t (g.T.Placed.matches t) seeks c.args.items.now c.args.at c.index-items-at.result c.requires (omega (arith, c.if-at-items.false)) (ap (g.T.Placed.matches t) (sym c.index-items-at.is) ∙ sym c.matches.ensures ∙ c.if-matches.true)
