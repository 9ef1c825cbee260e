use Rattle.std.proofs.Common.{◌∙◌, ap, sym, arith}
use Rattle.gimple_exec.proofs.AssignedLemmas.{none_more}
use Rattle.gimple_exec.proofs.PlaceLemmas.{first_at, place_none}
use Rattle.gimple_exec.proofs.rows.place_from_front.Goals as goal

pub returns-then-matches : goal.returns-then-matches
returns-then-matches g c =
    first_at (g.T.Placed.matches c.args.sought.now) c.args.items.now c.loop-at.at c.index-items-at.result (omega arith) c.loop-at.invariant (ap (g.T.Placed.matches c.args.sought.now) (sym c.index-items-at.is) ∙ sym c.matches.ensures ∙ c.if-matches.true)

pub returns : goal.returns
returns g c = place_none (g.T.Placed.matches c.args.sought.now) c.args.items.now c.loop-at.at c.loop-at.invariant (omega arith)

pub loop-at-preserved : goal.loop-at-preserved
loop-at-preserved g c =
    none_more (g.T.Placed.matches c.args.sought.now) c.args.items.now c.loop-at.at c.index-items-at.result c.loop-at.invariant (omega arith) (ap (g.T.Placed.matches c.args.sought.now) (sym c.index-items-at.is) ∙ sym c.matches.ensures ∙ c.if-matches.false)
